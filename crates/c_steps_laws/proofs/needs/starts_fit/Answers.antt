use Rattle.c_steps_laws.proofs.NeededRuns as lemma
use Rattle.c_steps_laws.proofs.needs.starts_fit.Goals as goal

pub returns : goal.returns
returns c = lemma.starts_fit
