use Rattle.c_values.proofs.Settled.{binary_settles}
use Rattle.c_values.proofs.laws.typed_operators_settle.Goals as goal

pub returns-clause-binary : goal.returns-clause-binary
returns-clause-binary c = binary_settles
