use Rattle.intervals.proofs.Domains.{binary_plain}
use Rattle.intervals.proofs.domain.IntervalValueDomain.binary.Goals as goal

pub returns-clause-plain : goal.returns-clause-plain
returns-clause-plain c = binary_plain c.args.op c.args.a.now c.args.b.now c.binary.result c.binary.ensures.carries
