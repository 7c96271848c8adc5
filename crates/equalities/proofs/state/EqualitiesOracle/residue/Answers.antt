use Rattle.num_api.proofs.ClassLemmas.{in_any}
use Rattle.equalities.proofs.state.EqualitiesOracle.residue.Goals as goal

pub returns-clause-holds : goal.returns-clause-holds
returns-clause-holds c = λ v n a e. in_any n
