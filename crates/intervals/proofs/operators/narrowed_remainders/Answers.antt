use Rattle.std.proofs.Common.{refl}
use Rattle.intervals.proofs.Remainders.{narrowed}
use Rattle.intervals.proofs.RemBounds.{part_bounds, no_part, loose_bounds, loose_finite_bounds}
use Rattle.intervals.proofs.operators.narrowed_remainders.Goals as goal

pub returns-in-Some-clause-holds : goal.returns-in-Some-clause-holds
returns-in-Some-clause-holds c = narrowed c.args.a.now c.args.b.now c.remainders-loose.result c.in-Some.whole (c.is_smaller.ensures.same c.if-not-is_smaller.false) c.remainders-loose.ensures.holds
    (λ n p low high. (c.in-Some.ensures.some n).1 (p, low, high)) c.in-Some.ensures.ends

pub returns-in-Some-clause-bounds : goal.returns-in-Some-clause-bounds
returns-in-Some-clause-bounds c = part_bounds c.args.a.now c.args.b.now c.remainders-loose.result c.in-Some.whole c.remainders-loose.ensures.bounds c.in-Some.ensures.ends

pub returns-in-None-clause-bounds : goal.returns-in-None-clause-bounds
returns-in-None-clause-bounds c =
    loose_bounds c.args.a.now c.args.b.now c.remainders-loose.result c.remainders-loose.ensures.bounds
    (no_part c.args.a.now c.args.b.now c.remainders-loose.result c.remainders-loose.ensures.holds (c.in-None.ensures.none.0 refl))

pub returns-then-not-is_smaller-clause-bounds : goal.returns-then-not-is_smaller-clause-bounds
returns-then-not-is_smaller-clause-bounds c = loose_finite_bounds c.args.a.now c.args.b.now c.remainders-loose.result c.remainders-loose.ensures.bounds (c.is_smaller.ensures.other c.if-not-is_smaller.true)
