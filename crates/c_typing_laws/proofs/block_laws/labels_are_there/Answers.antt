use Rattle.c_typing_laws.proofs.BlockPrograms as lemmas
use Rattle.c_typing_laws.proofs.block_laws.labels_are_there.Goals as goal

pub returns : goal.returns
returns c = lemmas.labels_are_there
