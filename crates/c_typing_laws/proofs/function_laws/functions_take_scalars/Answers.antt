use Rattle.c_typing_laws.proofs.FileParams as lemmas
use Rattle.c_typing_laws.proofs.function_laws.functions_take_scalars.Goals as goal

pub returns : goal.returns
returns c = lemmas.functions_take_scalars
