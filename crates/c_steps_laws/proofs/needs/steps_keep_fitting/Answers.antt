use Rattle.c_steps_laws.proofs.NeededRuns as lemma
use Rattle.c_steps_laws.proofs.needs.steps_keep_fitting.Goals as goal

pub returns : goal.returns
returns c = lemma.steps_keep_fitting
