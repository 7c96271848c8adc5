use Rattle.c_steps_laws.proofs.Start as start
use Rattle.c_steps_laws.proofs.laws.states_of_typed_runs_fit.Goals as goal

pub returns : goal.returns
returns c = start.runs_fit
