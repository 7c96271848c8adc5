use Rattle.c_typing_laws.proofs.LawSamples as lemmas
use Rattle.c_typing_laws.proofs.expressions.samples_are_typed.Goals as goal

pub returns : goal.returns
returns c = lemmas.samples_are_typed
