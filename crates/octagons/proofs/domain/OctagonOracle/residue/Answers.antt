use Rattle.num_api.proofs.ClassLemmas.{in_any}
use Rattle.octagons.proofs.domain.OctagonOracle.residue.Goals as goal

pub returns-clause-holds : goal.returns-clause-holds
returns-clause-holds c = λ v n h e. in_any n
