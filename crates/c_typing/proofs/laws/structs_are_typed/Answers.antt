use Rattle.c_typing.proofs.Adds as lemmas
use Rattle.c_typing.proofs.laws.structs_are_typed.Goals as goal

pub returns : goal.returns
returns c = lemmas.structs_are_typed
