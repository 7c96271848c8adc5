use Rattle.c_typing_laws.proofs.AllMade as lemmas
use Rattle.c_typing_laws.proofs.step_laws.statements_are_made.Goals as goal

pub returns : goal.returns
returns c = lemmas.statements_are_made
