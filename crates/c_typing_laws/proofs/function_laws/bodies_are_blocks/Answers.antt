use Rattle.c_typing_laws.proofs.FileParams as lemmas
use Rattle.c_typing_laws.proofs.function_laws.bodies_are_blocks.Goals as goal

pub returns : goal.returns
returns c = lemmas.bodies_are_blocks
