use Rattle.std.proofs.Common.{◌≡◌}
use Rattle.block_mem.specs.Pieces.{cut_byte}
use Rattle.block_mem.proofs.ByPlace.{made}
use Rattle.block_mem.proofs.pieces.cut.Given as goal

abbrev pub invariant-loop-place : goal.invariant-loop-place
invariant-loop-place l = l.bytes ≡ made (cut_byte l.at l.count) 0 l.place l.fn.bytes
