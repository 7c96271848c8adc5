use Rattle.std.proofs.Common.{◌≡◌, drop}
use Rattle.block_mem.specs.Bytes.{has_undef}
use Rattle.block_mem.proofs.loading.has_undef.Given as goal

abbrev pub invariant-loop-byte : goal.invariant-loop-byte
invariant-loop-byte l = has_undef l.bytes ≡ has_undef (drop l.byte-index l.bytes)
