use Rattle.intervals.proofs.BitBounds.{and_minus}
use Rattle.intervals.proofs.bit_ranges.both.Goals as goal

pub returns-in-true-true-clause-bounds : goal.returns-in-true-true-clause-bounds
returns-in-true-true-clause-bounds c = λ m n. rw (c.in-true-true.is-0, c.in-true-true.is-1)
    (and_minus c.args.a c.args.b m n c.or_sizes.result c.complement.result (c.or_sizes.ensures.bounds m n) c.complement.ensures.flips)
