use Rattle.c_steps_laws.proofs.Start as start
use Rattle.c_steps_laws.proofs.laws.typed_runs_never_stand.Goals as goal

pub returns : goal.returns
returns c = start.runs_never_stand
