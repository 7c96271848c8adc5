use Rattle.c_layout.proofs.Parts.{inside}
use Rattle.c_layout.proofs.layout.parts_lie_inside.Goals as goal

pub returns : goal.returns
returns c structs is whole part offset size at sized = inside structs is size at sized
