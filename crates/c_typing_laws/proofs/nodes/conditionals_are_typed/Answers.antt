use Rattle.c_typing_laws.proofs.Casts as lemmas
use Rattle.c_typing_laws.proofs.nodes.conditionals_are_typed.Goals as goal

pub returns : goal.returns
returns c = lemmas.conditionals_are_typed
