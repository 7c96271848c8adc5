use Rattle.c_typing_laws.proofs.Assigns as lemmas
use Rattle.c_typing_laws.proofs.nodes.assignments_are_typed.Goals as goal

pub returns : goal.returns
returns c = lemmas.assignments_are_typed
