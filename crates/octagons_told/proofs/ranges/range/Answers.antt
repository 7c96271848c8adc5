use Rattle.std.proofs.Common.{sym, subst}
use Rattle.num_api.specs.Ranges.{InRange}
use Rattle.octagons_told.proofs.ranges.range.Goals as goal

pub returns-in-Some-clause-holds : goal.returns-in-Some-clause-holds
returns-in-Some-clause-holds c = λ v n h e. subst (InRange c.sum_range.result) (sym (c.in-Some.ensures.value v n e)) (c.sum_range.ensures.holds v h)
