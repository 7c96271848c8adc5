use Rattle.lower_samples.proofs.Failures as lemmas
use Rattle.lower_samples.proofs.laws.failures_are_lowered.Goals as goal

pub returns : goal.returns
returns c = lemmas.failures_come_to
