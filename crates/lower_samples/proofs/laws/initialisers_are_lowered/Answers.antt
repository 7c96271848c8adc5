use Rattle.lower_samples.proofs.Initials as lemmas
use Rattle.lower_samples.proofs.laws.initialisers_are_lowered.Goals as goal

pub returns : goal.returns
returns c = lemmas.initials_come_to
