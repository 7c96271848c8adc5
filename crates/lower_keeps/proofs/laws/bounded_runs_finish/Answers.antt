use Rattle.lower_keeps.proofs.Kept as lemmas
use Rattle.lower_keeps.proofs.laws.bounded_runs_finish.Goals as goal

pub returns : goal.returns
returns c = lemmas.bounded_runs_finish
