use Rattle.c_steps_laws.proofs.NeededRows.{needs}
use Rattle.c_steps_laws.proofs.needs.rows_find_needs.Goals as goal

pub returns : goal.returns
returns c = λ p w item work s m i h. needs w h
