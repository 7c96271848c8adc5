use Rattle.c_typing_laws.proofs.FileArrays as lemmas
use Rattle.c_typing_laws.proofs.array_laws.arrays_have_sizes.Goals as goal

pub returns : goal.returns
returns c = lemmas.arrays_have_sizes
