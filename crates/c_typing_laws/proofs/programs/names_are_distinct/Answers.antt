use Rattle.c_typing_laws.proofs.DistinctNames as lemmas
use Rattle.c_typing_laws.proofs.programs.names_are_distinct.Goals as goal

pub returns : goal.returns
returns c = lemmas.names_are_distinct
