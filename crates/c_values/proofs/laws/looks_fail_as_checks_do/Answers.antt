use Rattle.c_values.proofs.Judging.{look_fails, look_passes}
use Rattle.c_values.proofs.laws.looks_fail_as_checks_do.Goals as goal

pub returns-clause-fails : goal.returns-clause-fails
returns-clause-fails c = look_fails

pub returns-clause-passes : goal.returns-clause-passes
returns-clause-passes c = look_passes
