use Rattle.c_typing.proofs.Adds as adds
use Rattle.c_typing.proofs.laws.typing_adds.Goals as goal

pub returns : goal.returns
returns c = adds.typing_adds
