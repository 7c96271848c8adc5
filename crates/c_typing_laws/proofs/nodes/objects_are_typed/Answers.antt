use Rattle.c_typing_laws.proofs.Places as lemmas
use Rattle.c_typing_laws.proofs.nodes.objects_are_typed.Goals as goal

pub returns : goal.returns
returns c = lemmas.objects_are_typed
