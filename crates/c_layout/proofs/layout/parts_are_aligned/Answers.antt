use Rattle.c_layout.proofs.Alignments.{parts_aligned}
use Rattle.c_layout.proofs.layout.parts_are_aligned.Goals as goal

pub returns : goal.returns
returns c = parts_aligned
