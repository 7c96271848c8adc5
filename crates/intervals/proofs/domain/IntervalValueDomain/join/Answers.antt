use Rattle.intervals.proofs.Domains.{join_plain}
use Rattle.intervals.proofs.domain.IntervalValueDomain.join.Goals as goal

pub returns-clause-plain : goal.returns-clause-plain
returns-clause-plain c = λ claimed. join_plain c.args.self.now c.args.other.now c.hull.result c.hull.ensures.ends
