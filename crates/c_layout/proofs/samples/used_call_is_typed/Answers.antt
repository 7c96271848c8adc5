use Rattle.c_layout.proofs.SmallPrograms.{used_call}
use Rattle.c_layout.proofs.samples.used_call_is_typed.Goals as goal

pub returns : goal.returns
returns c = used_call
