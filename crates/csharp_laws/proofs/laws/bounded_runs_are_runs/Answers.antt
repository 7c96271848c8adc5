use Rattle.csharp_laws.proofs.MainRuns as lemmas
use Rattle.csharp_laws.proofs.laws.bounded_runs_are_runs.Goals as goal

pub returns : goal.returns
returns c = lemmas.bounded_run_is_same
