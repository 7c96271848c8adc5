use Rattle.c_steps.proofs.Samples as samples
use Rattle.c_steps.proofs.laws.samples_run.Goals as goal

pub returns : goal.returns
returns c = samples.runs_end
