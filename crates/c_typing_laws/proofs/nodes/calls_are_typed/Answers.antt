use Rattle.c_typing_laws.proofs.Calls as lemmas
use Rattle.c_typing_laws.proofs.nodes.calls_are_typed.Goals as goal

pub returns : goal.returns
returns c = lemmas.calls_are_typed
