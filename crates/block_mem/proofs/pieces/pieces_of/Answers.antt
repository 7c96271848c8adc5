use Rattle.std.proofs.Common.{refl}
use Rattle.block_mem.specs.Pieces.{pieces}
use Rattle.block_mem.proofs.pieces.pieces_of.Goals as goal

pub returns : goal.returns
unfolding pieces
returns c = refl
