use Rattle.c_typing.proofs.OneFile as one
use Rattle.c_typing.proofs.laws.files_have_one.Goals as goal

pub returns : goal.returns
returns c = one.files_have_one
