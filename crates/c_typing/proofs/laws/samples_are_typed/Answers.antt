use Rattle.c_typing.proofs.Samples as samples
use Rattle.c_typing.proofs.laws.samples_are_typed.Goals as goal

pub returns : goal.returns
returns c = samples.samples_are_typed
