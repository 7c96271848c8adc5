use Rattle.ext_int.proofs.Ends.{number_between, holds_number_from}
use Rattle.intervals.proofs.Widenings.{widened-left, widened-right, widened-no_rise, widened-falls}
use Rattle.intervals.proofs.domain.IntervalValueDomain.widen.Goals as goal

pub invariant_of-result : goal.invariant_of-result
invariant_of-result g c =
    let i = c.args.self.now in
    let n = number_between i.lo i.hi i.holds in
    let kept = widened-left g.S.Steps.list i c.args.next.now c.lower.result c.raise.result (record { low = c.lower.ensures; high = c.raise.ensures }) n.0 (n.1, n.2) in
    record { holds = holds_number_from c.lower.result c.raise.result n.0 kept.0 kept.1 }

pub returns-clause-left : goal.returns-clause-left
returns-clause-left g c = widened-left g.S.Steps.list c.args.self.now c.args.next.now c.lower.result c.raise.result (record { low = c.lower.ensures; high = c.raise.ensures })

pub returns-clause-right : goal.returns-clause-right
returns-clause-right g c = widened-right g.S.Steps.list c.args.self.now c.args.next.now c.lower.result c.raise.result (record { low = c.lower.ensures; high = c.raise.ensures })

pub returns-clause-no_rise : goal.returns-clause-no_rise
returns-clause-no_rise g c = widened-no_rise g.S.Steps.list c.args.self.now c.args.next.now c.lower.result c.raise.result (record { low = c.lower.ensures; high = c.raise.ensures })

pub returns-clause-falls : goal.returns-clause-falls
returns-clause-falls g c = widened-falls g.S.Steps.list c.args.self.now c.args.next.now c.lower.result c.raise.result (record { low = c.lower.ensures; high = c.raise.ensures })
