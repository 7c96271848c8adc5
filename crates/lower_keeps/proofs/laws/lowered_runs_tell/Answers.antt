use Rattle.lower_keeps.proofs.Told as lemmas
use Rattle.lower_keeps.proofs.laws.lowered_runs_tell.Goals as goal

pub returns : goal.returns
returns c = lemmas.lowered_runs_tell
