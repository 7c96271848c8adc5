use Rattle.intervals.proofs.Domains.{unary_plain}
use Rattle.intervals.proofs.domain.IntervalValueDomain.unary.Goals as goal

pub returns-clause-plain : goal.returns-clause-plain
returns-clause-plain c = unary_plain c.args.op c.args.a.now c.unary.result c.unary.ensures.carries
