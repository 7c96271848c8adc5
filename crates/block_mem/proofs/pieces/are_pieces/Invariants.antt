use Rattle.std.proofs.Common.{◌≡◌, drop}
use Rattle.block_mem.specs.Pieces.{are_pieces}
use Rattle.block_mem.proofs.pieces.are_pieces.Given as goal

abbrev pub invariant-loop-piece : goal.invariant-loop-piece
invariant-loop-piece l = are_pieces l.pointer 0 l.bytes ≡ are_pieces l.pointer l.piece (drop l.piece l.bytes)
