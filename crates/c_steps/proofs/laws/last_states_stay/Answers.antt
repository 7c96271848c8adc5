use Rattle.c_steps.proofs.Last as last
use Rattle.c_steps.proofs.laws.last_states_stay.Goals as goal

pub returns : goal.returns
returns c = last.last_stays
