use Rattle.c_typing_laws.proofs.FileBodies as lemmas
use Rattle.c_typing_laws.proofs.body_laws.bodies_are_typed.Goals as goal

pub returns : goal.returns
returns c = lemmas.bodies_are_typed
