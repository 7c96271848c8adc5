use Rattle.lower_samples.proofs.Values as lemmas
use Rattle.lower_samples.proofs.laws.values_are_lowered.Goals as goal

pub returns : goal.returns
returns c = lemmas.values_come_to
