use Rattle.intervals.proofs.Domains.{meet_plain}
use Rattle.intervals.proofs.domain.IntervalValueDomain.meet.Goals as goal

pub returns-clause-plain : goal.returns-clause-plain
returns-clause-plain c = meet_plain c.args.self.now c.args.other.now c.part.result c.part.ensures.ends
