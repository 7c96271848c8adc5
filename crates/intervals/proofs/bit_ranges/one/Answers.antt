use Rattle.intervals.proofs.BitBounds.{xor_unlike}
use Rattle.intervals.proofs.bit_ranges.one.Goals as goal

pub returns-else-minus_a-minus_b-clause-bounds : goal.returns-else-minus_a-minus_b-clause-bounds
returns-else-minus_a-minus_b-clause-bounds c = λ m n.
    xor_unlike c.args.minus_a c.args.minus_b c.args.a c.args.b c.xor_sizes-sizes.result c.complement.result m n c.if-minus_a-minus_b.false (c.xor_sizes-sizes.ensures.bounds m n) c.complement.ensures.flips
