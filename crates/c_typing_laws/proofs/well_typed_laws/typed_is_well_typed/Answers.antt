use Rattle.c_typing_laws.proofs.Together as lemmas
use Rattle.c_typing_laws.proofs.well_typed_laws.typed_is_well_typed.Goals as goal

pub returns : goal.returns
returns c = lemmas.typed_is_well_typed
