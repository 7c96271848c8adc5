use Rattle.c_typing_laws.proofs.Stores as lemmas
use Rattle.c_typing_laws.proofs.rows.values_are_stored.Goals as goal

pub returns : goal.returns
returns c = lemmas.values_are_stored
