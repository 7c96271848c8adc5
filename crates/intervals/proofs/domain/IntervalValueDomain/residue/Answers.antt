use Rattle.num_api.proofs.ClassLemmas.{in_any}
use Rattle.intervals.proofs.domain.IntervalValueDomain.residue.Goals as goal

pub returns-in-None-clause-holds : goal.returns-in-None-clause-holds
returns-in-None-clause-holds c = λ n admitted. in_any n
