use Rattle.c_typing_laws.proofs.Casts as lemmas
use Rattle.c_typing_laws.proofs.nodes.characters_are_typed.Goals as goal

pub returns : goal.returns
returns c = lemmas.characters_are_typed
