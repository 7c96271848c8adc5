use Rattle.lower_samples.proofs.Jumps as lemmas
use Rattle.lower_samples.proofs.laws.jumps_are_lowered.Goals as goal

pub returns : goal.returns
returns c = lemmas.jumps_come_to
