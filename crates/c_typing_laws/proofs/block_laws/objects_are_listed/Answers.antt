use Rattle.c_typing_laws.proofs.BlockPrograms as lemmas
use Rattle.c_typing_laws.proofs.block_laws.objects_are_listed.Goals as goal

pub returns : goal.returns
returns c = lemmas.objects_are_listed
