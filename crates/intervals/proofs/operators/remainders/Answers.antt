use Rattle.std.proofs.Common.{◌≡◌}
use Rattle.intervals.specs.Operations.{greatest_remainder}
use Rattle.intervals.proofs.Remainders.{zero_between, holds_remainders, low_remainder, high_remainder, low_is, high_is}
use Rattle.intervals.proofs.RemBounds.{side_bounds}
use Rattle.intervals.proofs.operators.remainders.Goals as goal

pub invariant_of-result : goal.invariant_of-result
invariant_of-result c =
    let low : c.max.result ≡ low_remainder (greatest_remainder c.args.b.now) c.args.a.now.lo = low_is _ _ _ _ _ _ c.most_remainder-most.ensures c.neg_low.ensures.value c.min.ensures.value c.max.ensures.value in
    let high : c.min-2.result ≡ high_remainder (greatest_remainder c.args.b.now) c.args.a.now.hi = high_is _ _ _ _ _ c.most_remainder-most.ensures c.max-2.ensures.value c.min-2.ensures.value in
    record { holds = rw (low, high) (zero_between c.args.a.now c.args.b.now) }

pub returns-clause-holds : goal.returns-clause-holds
returns-clause-holds c =
    holds_remainders c.args.a.now c.args.b.now _
    (low_is _ _ _ _ _ _ c.most_remainder-most.ensures c.neg_low.ensures.value c.min.ensures.value c.max.ensures.value)
    (high_is _ _ _ _ _ c.most_remainder-most.ensures c.max-2.ensures.value c.min-2.ensures.value)

pub returns-clause-bounds : goal.returns-clause-bounds
returns-clause-bounds c =
    side_bounds c.args.a.now c.args.b.now _
    (low_is _ _ _ _ _ _ c.most_remainder-most.ensures c.neg_low.ensures.value c.min.ensures.value c.max.ensures.value)
    (high_is _ _ _ _ _ c.most_remainder-most.ensures c.max-2.ensures.value c.min-2.ensures.value)
