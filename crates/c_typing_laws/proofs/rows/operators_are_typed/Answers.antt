use Rattle.c_typing_laws.proofs.Operators as lemmas
use Rattle.c_typing_laws.proofs.rows.operators_are_typed.Goals as goal

pub returns : goal.returns
returns c = lemmas.operators_are_typed
