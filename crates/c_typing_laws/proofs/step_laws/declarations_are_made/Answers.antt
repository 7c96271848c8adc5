use Rattle.c_typing_laws.proofs.AllMade as lemmas
use Rattle.c_typing_laws.proofs.step_laws.declarations_are_made.Goals as goal

pub returns : goal.returns
returns c = lemmas.declarations_are_made
