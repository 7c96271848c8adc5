use Rattle.c_typing_laws.proofs.Whole as lemmas
use Rattle.c_typing_laws.proofs.initialiser_laws.open_initialisers_are_typed.Goals as goal

pub returns : goal.returns
returns c = lemmas.open_initialisers_are_typed
