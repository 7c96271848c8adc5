use Rattle.c_steps_laws.proofs.Shaped.{work_left}
use Rattle.c_steps_laws.proofs.needs.work_is_left.Goals as goal

pub returns : goal.returns
returns c = λ p s m i h. work_left h
