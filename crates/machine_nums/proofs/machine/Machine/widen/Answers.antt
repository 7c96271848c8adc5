use Rattle.std.proofs.Common.{refl, sym, ◌∙◌}
use Rattle.std.proofs.lemmas.Bool.{false≢true}
use Rattle.machine_nums.proofs.Machines.{weight_stays, weight_falls, void_held, not_void_held}
use Rattle.machine_nums.proofs.machine.Machine.widen.Goals as goal

pub returns-then-next-clause-right : goal.returns-then-next-clause-right
returns-then-next-clause-right g c = λ v ad. absurd (false≢true (sym ad.0 ∙ c.if-next.true))

pub returns-then-next-clause-falls : goal.returns-then-next-clause-falls
returns-then-next-clause-falls g c = λ e. absurd (void_held _ _ c.if-next.true e)

pub returns-clause-left : goal.returns-clause-left
returns-clause-left g c = λ v ad. (refl, c.in_ok-widen.ensures.left v ad.1)

pub returns-clause-right : goal.returns-clause-right
returns-clause-right g c = λ v ad. (refl, c.in_ok-widen.ensures.right v ad.1)

pub returns-clause-no_rise : goal.returns-clause-no_rise
returns-clause-no_rise g c = weight_stays _ _ c.args.self.now.is_void c.in_ok-widen.ensures.no_rise

pub returns-clause-falls : goal.returns-clause-falls
returns-clause-falls g c = λ e.
    weight_falls _ _ c.args.self.now.is_void _ c.in_ok-widen.ensures.no_rise c.in_ok-widen.ensures.falls
    (not_void_held c.args.next.now.is_void _ c.if-next.false e)
