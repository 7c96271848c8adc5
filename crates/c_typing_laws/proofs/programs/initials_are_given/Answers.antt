use Rattle.c_typing_laws.proofs.WholePrograms as lemmas
use Rattle.c_typing_laws.proofs.programs.initials_are_given.Goals as goal

pub returns : goal.returns
returns c = lemmas.initials_are_given
