use Rattle.c_layout.proofs.SmallPrograms.{first_call}
use Rattle.c_layout.proofs.samples.outer_call_is_first.Goals as goal

pub returns : goal.returns
returns c = first_call
