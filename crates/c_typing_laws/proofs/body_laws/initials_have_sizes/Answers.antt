use Rattle.c_typing_laws.proofs.FileBodies as lemmas
use Rattle.c_typing_laws.proofs.body_laws.initials_have_sizes.Goals as goal

pub returns : goal.returns
returns c = lemmas.initials_have_sizes
