use Rattle.c_typing_laws.proofs.Changes as lemmas
use Rattle.c_typing_laws.proofs.rows.steps_are_typed.Goals as goal

pub returns : goal.returns
returns c = lemmas.steps_are_typed
