use Rattle.c_layout.proofs.Failing.{failing}
use Rattle.c_layout.proofs.checks.failing_is_decided.Goals as goal

pub returns : goal.returns
returns c objects check x = failing objects check check.kind x
