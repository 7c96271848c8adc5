use Rattle.std.proofs.Common.{sym, subst}
use Rattle.std.proofs.lemmas.Result.{IfOk-weaker}
use Rattle.num_api.specs.declared.message.Range.{Range}
use Rattle.num_api.specs.Ranges.{InRange, IsUnder, with_range}
use Rattle.machine_nums.proofs.Wrapped.{has_inside}
use Rattle.machine_nums.proofs.machine.Machine.havoc.Goals as goal

pub returns-clause-after : goal.returns-clause-after
returns-clause-after g c = IfOk-weaker c.havoc.result _ _ (λ u h v w n ad has to.
    (ad.0, h v w n ad.1 (subst (λ (r : Range). InRange r n) (sym c.type_range.ensures.value) (has_inside c.args.t n has)) to)) c.havoc.ensures.after

pub returns-clause-sharp_others : goal.returns-clause-sharp_others
returns-clause-sharp_others g c = IfOk-weaker c.havoc.result _ _ (λ u h v y ex ad apart s. h v y ex ad.1 apart s) c.havoc.ensures.sharp_others

pub returns-clause-plain : goal.returns-clause-plain
returns-clause-plain g c = IfOk-weaker c.havoc.result _ _ (λ u h given ex under void.
    subst (λ (r : Range). IsUnder (g.D.Oracle.known c.havoc.new.self) (with_range given c.args.x.0 r)) c.type_range.ensures.value
    (h given ex (under void))) c.havoc.ensures.plain
