use Rattle.c_typing.proofs.SomeFile as lemmas
use Rattle.c_typing.proofs.laws.files_have_some.Goals as goal

pub returns : goal.returns
returns c = lemmas.files_have_some
