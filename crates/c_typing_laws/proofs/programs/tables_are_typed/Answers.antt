use Rattle.c_typing_laws.proofs.WholePrograms as lemmas
use Rattle.c_typing_laws.proofs.programs.tables_are_typed.Goals as goal

pub returns : goal.returns
returns c = lemmas.tables_are_typed
