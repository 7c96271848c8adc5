use Rattle.block_mem.proofs.Whole.{cut_left}
use Rattle.block_mem.proofs.cut_is_by_contents.Goals as goal

pub returns : goal.returns
returns c = cut_left
