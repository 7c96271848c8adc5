use Rattle.intervals.specs.Interval.{ends_of}
use Rattle.intervals.specs.Bounds.{flip_range}
use Rattle.intervals.proofs.BitBounds.{or_without, or_minus, or_turned}
use Rattle.intervals.proofs.bit_ranges.either.Goals as goal

pub returns-in-true-true-clause-bounds : goal.returns-in-true-true-clause-bounds
returns-in-true-true-clause-bounds c = λ m n. rw (c.in-true-true.is-0, c.in-true-true.is-1)
    (or_minus c.args.a c.args.b m n c.and_sizes.result c.complement.result (c.and_sizes.ensures.bounds m n) c.complement.ensures.flips)

pub returns-in-true-false-clause-bounds : goal.returns-in-true-false-clause-bounds
returns-in-true-false-clause-bounds c = λ m n. rw (c.in-true-false.is-0, c.in-true-false.is-1)
    (or_turned (ends_of c.args.b) (flip_range (ends_of c.args.a)) (ends_of c.complement-in-true-false.result)
    (or_without c.args.b c.args.a n m c.without_sizes.result c.complement-in-true-false.result (c.without_sizes.ensures.bounds m n) c.complement-in-true-false.ensures.flips))

pub returns-in-false-true-clause-bounds : goal.returns-in-false-true-clause-bounds
returns-in-false-true-clause-bounds c = λ m n. rw (c.in-false-true.is-0, c.in-false-true.is-1)
    (or_without c.args.a c.args.b m n c.without_sizes-in-false-true.result c.complement-in-false-true.result (c.without_sizes-in-false-true.ensures.bounds n m) c.complement-in-false-true.ensures.flips)
