use Rattle.std.proofs.Common.{arith, length-set, ◌∙◌}
use Rattle.block_mem.proofs.ByteNumbers.{low_bytes_more, low_bytes_whole}
use Rattle.block_mem.proofs.numbers.low_bytes.Goals as goal

pub loop-place-preserved : goal.loop-place-preserved
loop-place-preserved c = (length-set _ _ _ ∙ c.loop-place.invariant.0, low_bytes_more _ _ _ _ _ _ (omega arith) (omega arith) c.loop-place.invariant.1)

pub returns : goal.returns
returns c = low_bytes_whole _ _ _ _ _ (omega arith) (omega arith) c.loop-place.invariant.1
