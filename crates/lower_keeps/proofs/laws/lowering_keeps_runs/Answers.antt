use Rattle.lower_keeps.proofs.Kept as lemmas
use Rattle.lower_keeps.proofs.laws.lowering_keeps_runs.Goals as goal

pub returns : goal.returns
returns c = lemmas.lowering_keeps_runs
