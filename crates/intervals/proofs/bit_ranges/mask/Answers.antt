use Rattle.std.proofs.Common.{arith}
use Rattle.std.proofs.lemmas.Int.{ints}
use Rattle.intervals.proofs.BitRanges.{mask_fits, mask_is}
use Rattle.intervals.proofs.bit_ranges.mask.Goals as goal

pub overflow_cast-result-2 : goal.overflow_cast-result-2
overflow_cast-result-2 c = let h = mask_fits c.args.n c.ilog2.result c.ranges.n c.requires c.ilog2.ensures.power_le c.ilog2.ensures.next_power_gt in omega (arith, ints)

pub returns : goal.returns
returns c = mask_is c.args.n c.ilog2.result c.ranges.n c.requires c.ilog2.ensures.power_le c.ilog2.ensures.next_power_gt
