use Rattle.std.proofs.Common.{◌≡◌, false, ◌∙◌, ap, sym, subst}
use Rattle.std.specs.Prelude.{IsTrue, not}
use Rattle.std.proofs.lemmas.Bool.{not-false}
use Rattle.num_api.specs.Known.{IsSharp}
use Rattle.num_api.specs.Ranges.{IsPoint, NoWider, IsUnder, with_range}
use Rattle.num_api.specs.Spans.{range_of}
use Rattle.num_api.proofs.Parts.{wider}
use Rattle.machine_nums.specs.MExprs.{mexpr_tree}
use Rattle.machine_nums.specs.Rule.{value_span}
use Rattle.machine_nums.proofs.Cutting.{under_here, under_itself}
use Rattle.machine_nums.proofs.Machines.{set_under}
use Rattle.machine_nums.proofs.Results.{own_inside}
use Rattle.machine_nums.proofs.machine.Machine.set.Goals as goal

pub returns-clause-after : goal.returns-clause-after
returns-clause-after g c = λ v w n ad q to.
    let both = c.in_ok-live.ensures.after v w n ad.1 (c.in_ok-part.ensures.holds v n ad.1 q) to in
    (c.marked.ensures.void ∙ ap not both.0, subst (λ s. g.D.Oracle.admits s w) (sym c.marked.ensures.state) both.1)

pub returns-clause-sharp_here : goal.returns-clause-sharp_here
returns-clause-sharp_here g c = λ v n ex ad on fit q.
    subst (λ s. IsPoint (g.D.Oracle.known s c.args.x.0) n) (sym c.marked.ensures.state)
    (c.in_ok-live.ensures.sharp_here v n ex ad.1 (c.in_ok-part.ensures.holds v n ad.1 q) (c.in_ok-part.ensures.shows v n ex ad.1 on fit q))

pub returns-clause-sharp_others : goal.returns-clause-sharp_others
returns-clause-sharp_others g c = λ v n y ex ad on fit q apart k.
    subst (λ s. IsSharp (g.D.Oracle.known s) v y) (sym c.marked.ensures.state)
    (c.in_ok-live.ensures.sharp_others v n y ex ad.1 (c.in_ok-part.ensures.holds v n ad.1 q) (c.in_ok-part.ensures.shows v n ex ad.1 on fit q) apart k)

pub returns-clause-plain : goal.returns-clause-plain
returns-clause-plain g c = λ given ex u void.
    let s = range_of (value_span given (mexpr_tree c.args.e.now)) in let under = u c.if-self.false in
    let live = not-false _ (sym c.marked.ensures.void ∙ void) in
    subst (λ m. IsUnder (g.D.Oracle.known m) (with_range given c.args.x.0 s)) (sym c.marked.ensures.state)
    (set_under _ given c.args.x.0 c.in_ok-part.part.range s (c.in_ok-live.ensures.plain given ex under live) (c.in_ok-part.ensures.plain given ex under))

pub returns-clause-own : goal.returns-clause-own
returns-clause-own g c = λ was.
    let part = c.in_ok-part.part in let x = c.args.x.0 in let known = g.D.Oracle.known in
    own_inside (g.D.Oracle.may_range c.args.self.now.state) (mexpr_tree c.args.e.now) part
    (λ r. IsTrue g.D.Oracle.exact → c.marked.new.self.is_void ≡ false → NoWider (known c.marked.new.self.state x) r)
    (λ r p ex void.
    let old = known c.args.self.now.state in
    let live = not-false _ (sym c.marked.ensures.void ∙ void) in
    subst (λ m. NoWider (known m x) r) (sym c.marked.ensures.state)
    (wider _ part.range r (under_here _ old x part.range (c.in_ok-live.ensures.plain old ex (under_itself old) live)) p)) c.in_ok-part.ensures.own
