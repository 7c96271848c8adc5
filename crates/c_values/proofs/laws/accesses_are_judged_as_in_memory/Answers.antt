use Rattle.c_values.proofs.Accesses.{loads}
use Rattle.c_values.proofs.laws.accesses_are_judged_as_in_memory.Goals as goal

pub returns-clause-loads : goal.returns-clause-loads
returns-clause-loads c = loads
