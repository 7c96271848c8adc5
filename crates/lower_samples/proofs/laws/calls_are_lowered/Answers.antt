use Rattle.lower_samples.proofs.Calls as lemmas
use Rattle.lower_samples.proofs.laws.calls_are_lowered.Goals as goal

pub returns : goal.returns
returns c = lemmas.calls_come_to
