use Rattle.std.proofs.Common.{sym, subst}
use Rattle.num_api.specs.Ranges.{InRange}
use Rattle.octagons_told.proofs.ranges.read_range.Goals as goal

pub returns-in-Some : goal.returns-in-Some
returns-in-Some c = λ v n h e. subst (InRange c.linear_range.result) (sym (c.in-Some.ensures v n e)) (c.linear_range.ensures v h)
