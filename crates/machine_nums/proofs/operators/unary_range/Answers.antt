use Rattle.std.proofs.Common.{refl, sym, subst}
use Rattle.num_api.specs.declared.message.Range.{Range}
use Rattle.num_api.specs.Ranges.{IsPoint, NoWider}
use Rattle.num_api.specs.Spans.{range_of}
use Rattle.num_api.proofs.Parts.{wider}
use Rattle.intervals.specs.Interval.{ends_of}
use Rattle.machine_nums.proofs.Wrapped.{point_holds}
use Rattle.machine_nums.proofs.Typed.{within_point}
use Rattle.machine_nums.proofs.operators.unary_range.Goals as goal

pub returns-in-Some-clause-holds : goal.returns-in-Some-clause-holds
returns-in-Some-clause-holds c = λ x n i e. c.range.ensures.holds n (c.unary.ensures.holds x n (c.in-Some.ensures.some x i) e)

pub returns-in-Some-clause-point : goal.returns-in-Some-clause-point
returns-in-Some-clause-point c = λ x n p e f. subst (λ (r : Range). IsPoint r n) (sym c.range.ensures.value)
    (c.unary.ensures.point x n refl (within_point c.in-Some.a c.args.r x c.in-Some.ensures.some (c.in-Some.ensures.plain refl) p) e f)

pub returns-in-Some-clause-plain : goal.returns-in-Some-clause-plain
returns-in-Some-clause-plain c = λ s u w f e g. subst (λ (r : Range). NoWider r (range_of u)) (sym c.range.ensures.value)
    (c.unary.ensures.plain s u refl (wider (ends_of c.in-Some.a) c.args.r (range_of s) (c.in-Some.ensures.plain refl) w) f e g)

pub returns-in-None-clause-point : goal.returns-in-None-clause-point
returns-in-None-clause-point c = λ x n p e f. absurd (c.in-None.ensures.none x (point_holds c.args.r x p))
