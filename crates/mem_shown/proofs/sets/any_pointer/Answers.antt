use Rattle.mem_shown.proofs.Having.{any_pointer}
use Rattle.mem_shown.proofs.sets.any_pointer.Goals as goal

pub returns : goal.returns
returns c = any_pointer c.new.result c.new.ensures
