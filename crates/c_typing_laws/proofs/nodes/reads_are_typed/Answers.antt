use Rattle.c_typing_laws.proofs.Places as lemmas
use Rattle.c_typing_laws.proofs.nodes.reads_are_typed.Goals as goal

pub returns : goal.returns
returns c = lemmas.reads_are_typed
