use Rattle.c_steps_laws.proofs.Shaped.{shaped}
use Rattle.c_steps_laws.proofs.needs.rows_find_shapes.Goals as goal

pub returns : goal.returns
returns c = λ p item work s m i h. shaped h
