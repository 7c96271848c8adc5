use Rattle.c_layout.proofs.Mains.{main_first}
use Rattle.c_layout.proofs.checks.main_is_one.Goals as goal

pub returns : goal.returns
returns c = main_first
