use Rattle.c_steps.proofs.Last as last
use Rattle.c_steps.proofs.laws.runs_end_once.Goals as goal

pub returns : goal.returns
returns c = last.ends_once
