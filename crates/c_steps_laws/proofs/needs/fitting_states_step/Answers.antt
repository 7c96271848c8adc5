use Rattle.c_steps_laws.proofs.NeededRuns as lemma
use Rattle.c_steps_laws.proofs.needs.fitting_states_step.Goals as goal

pub returns : goal.returns
returns c = lemma.fitting_states_step
