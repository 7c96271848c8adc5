use Rattle.std.proofs.Common.{◌≡◌, ◌-◌, ◌++◌, take, length}
use Rattle.block_mem.specs.Numbers.{low_bytes}
use Rattle.block_mem.proofs.numbers.low_bytes.Given as goal

abbrev pub invariant-loop-place : goal.invariant-loop-place
invariant-loop-place l = (length l.bytes ≡ 8) × (take l.place l.bytes ++ low_bytes (8 - l.place) l.rest ≡ low_bytes 8 l.fn.number)
