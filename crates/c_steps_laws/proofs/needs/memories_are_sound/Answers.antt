use Rattle.c_steps_laws.proofs.Sound.{sound}
use Rattle.c_steps_laws.proofs.needs.memories_are_sound.Goals as goal

pub returns : goal.returns
returns c = sound
