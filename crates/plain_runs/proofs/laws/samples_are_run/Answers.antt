use Rattle.plain_runs.proofs.Samples as samples
use Rattle.plain_runs.proofs.laws.samples_are_run.Goals as goal

pub returns : goal.returns
returns c = samples.samples_are
