use Rattle.std.proofs.Common.{refl}
use Rattle.num_api.specs.Spans.{range_of}
use Rattle.num_api.proofs.Parts.{wider}
use Rattle.intervals.specs.Interval.{ends_of}
use Rattle.machine_nums.specs.Rule.{type_span}
use Rattle.machine_nums.proofs.Wrapped.{point_holds}
use Rattle.machine_nums.proofs.Typed.{within_point}
use Rattle.machine_nums.proofs.operators.binary_range.Goals as goal

pub returns-in_default-clause-point : goal.returns-in_default-clause-point
returns-in_default-clause-point c = λ x y n p q e f. absurd (c.in_default.ensures.none x (point_holds c.args.r x p))

pub returns-in_default-within-clause-point : goal.returns-in_default-within-clause-point
returns-in_default-within-clause-point c = λ x y n p q e f. absurd (c.in_default-within.ensures.none y (point_holds c.args.s y q))

pub returns-clause-holds : goal.returns-clause-holds
returns-clause-holds c = λ x y n i j e. c.of_intervals.ensures.holds x y n (c.in-Some.ensures.some x i) (c.in-Some-within.ensures.some y j) e

pub returns-clause-point : goal.returns-clause-point
returns-clause-point c = λ x y n p q e f.
    c.of_intervals.ensures.point x y n (within_point c.in-Some.a c.args.r x c.in-Some.ensures.some (c.in-Some.ensures.plain refl) p)
    (within_point c.in-Some-within.b c.args.s y c.in-Some-within.ensures.some (c.in-Some-within.ensures.plain refl) q) e f

pub returns-clause-plain : goal.returns-clause-plain
returns-clause-plain c = λ p q u w f k g e h.
    c.of_intervals.ensures.plain p q u (wider (ends_of c.in-Some.a) c.args.r (range_of p) (c.in-Some.ensures.plain refl) w) f
    (wider (ends_of c.in-Some-within.b) c.args.s (range_of q) (c.in-Some-within.ensures.plain refl) k) g e h

pub returns-clause-bits : goal.returns-clause-bits
returns-clause-bits c = λ t l i j.
    c.of_intervals.ensures.bits t l (wider (ends_of c.in-Some.a) c.args.r (range_of (type_span t)) (c.in-Some.ensures.plain refl) i)
    (wider (ends_of c.in-Some-within.b) c.args.s (range_of (type_span t)) (c.in-Some-within.ensures.plain refl) j)
