use Rattle.c_typing_laws.proofs.Places as lemmas
use Rattle.c_typing_laws.proofs.nodes.prefixes_are_typed.Goals as goal

pub returns : goal.returns
returns c = lemmas.prefixes_are_typed
