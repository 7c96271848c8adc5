use Rattle.c_typing_laws.proofs.Changes as lemmas
use Rattle.c_typing_laws.proofs.rows.changes_are_typed.Goals as goal

pub returns : goal.returns
returns c = lemmas.changes_are_typed
