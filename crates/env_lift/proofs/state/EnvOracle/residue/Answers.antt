use Rattle.num_api.proofs.Multiples.{zero_multiple}
use Rattle.env_lift.proofs.state.EnvOracle.residue.Goals as goal

pub returns-in-None-clause-fold : goal.returns-in-None-clause-fold
returns-in-None-clause-fold g c = λ n x al h. record { rem = zero_multiple n; modulus = zero_multiple n }
