use Rattle.std.proofs.Common.{sym, subst}
use Rattle.num_api.specs.Ranges.{NoWider}
use Rattle.num_api.specs.Spans.{range_of}
use Rattle.num_api.specs.Plain.{cut}
use Rattle.num_api.specs.declared.standings.Standing.{Standing}
use Rattle.num_api.specs.Standings.{standing_of, Stands}
use Rattle.num_api.proofs.RangeCuts.{both_inside}
use Rattle.num_api.proofs.ranges.cut_range.Goals as goal

pub returns-in-Less-clause-plain : goal.returns-in-Less-clause-plain
returns-in-Less-clause-plain c = λ p q h w k.
    subst (λ (a : Standing). NoWider c.below.result (range_of (cut (standing_of a) p q))) (sym c.in-Less.is) (c.below.ensures.plain p q.hi w k.high)

pub returns-in-Greater-clause-plain : goal.returns-in-Greater-clause-plain
returns-in-Greater-clause-plain c = λ p q h w k.
    subst (λ (a : Standing). NoWider c.above.result (range_of (cut (standing_of a) p q))) (sym c.in-Greater.is) (c.above.ensures.plain p q.lo w k.low)

pub returns-in-Same-clause-plain : goal.returns-in-Same-clause-plain
returns-in-Same-clause-plain c = λ p q h w k.
    subst (λ (a : Standing). NoWider (record { lo = c.max-in-Same.result; hi = c.min-in-Same.result }) (range_of (cut (standing_of a) p q))) (sym c.in-Same.is)
    (both_inside c.args.s c.args.t p q c.max-in-Same.result c.min-in-Same.result c.max-in-Same.ensures.value c.min-in-Same.ensures.value w k)

pub returns-in-Other-clause-holds : goal.returns-in-Other-clause-holds
returns-in-Other-clause-holds c = λ x y i j h. c.apart.ensures.holds x y i j (subst (λ (a : Standing). Stands (standing_of a) x y) c.in-Other.is h)

pub returns-in-Other-clause-plain : goal.returns-in-Other-clause-plain
returns-in-Other-clause-plain c = λ p q h w k.
    subst (λ (a : Standing). NoWider c.apart.result (range_of (cut (standing_of a) p q))) (sym c.in-Other.is) (c.apart.ensures.plain p q h w k)
