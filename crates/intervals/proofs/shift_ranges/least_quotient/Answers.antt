use Rattle.std.proofs.Common.{rules, FitsSigned}
use mir.Syntax.{w128}
use Rattle.intervals.proofs.ShiftRanges.{low_below_zero, low_above_zero, same_sign}
use Rattle.intervals.proofs.ShiftRanges.{by_least_amount, by_most_amount, from_below}
use Rattle.intervals.proofs.shift_ranges.least_quotient.Goals as goal

pub returns-in-Fin-clause-holds : goal.returns-in-Fin-clause-holds
returns-in-Fin-clause-holds c = λ x k below p.
    let f : FitsSigned w128 c.in-Fin.n = search rules in
    low_below_zero c.args.lo c.in-Fin.n c.quotient.result x c.amount.result k c.in-Fin.is f (record { sfits = c.quotient.type_inv }) c.if-n-lt0.true c.quotient.ensures (c.amount.ensures.least k p.0) below

pub returns-in-Fin-2-clause-holds : goal.returns-in-Fin-2-clause-holds
returns-in-Fin-2-clause-holds c = λ x k below p.
    let f : FitsSigned w128 c.in-Fin-2.n = search rules in
    low_above_zero c.args.lo c.in-Fin-2.n c.quotient-in-Fin-2.result x c.amount-in-Fin-2.result k c.in-Fin-2.is f (record { sfits = c.quotient-in-Fin-2.type_inv }) (same_sign c.args.lo c.in-Fin.n c.in-Fin-2.n c.in-Fin.is c.in-Fin-2.is c.if-n-lt0.false) c.quotient-in-Fin-2.ensures (c.amount-in-Fin-2.ensures.most k p.1) below

pub returns-in-Fin-clause-least : goal.returns-in-Fin-clause-least
returns-in-Fin-clause-least c = λ p l k at at_k all.
    let f : FitsSigned w128 c.in-Fin.n = search rules in
    from_below p c.quotient.result l c.args.b.now
    (by_least_amount c.args.lo c.in-Fin.n p c.quotient.result c.amount.result k c.args.b.now c.in-Fin.is at f (record { sfits = c.quotient.type_inv }) c.quotient.ensures at_k c.amount.ensures.value) all

pub returns-in-Fin-2-clause-least : goal.returns-in-Fin-2-clause-least
returns-in-Fin-2-clause-least c = λ p l k at at_k all.
    let f : FitsSigned w128 c.in-Fin-2.n = search rules in
    from_below p c.quotient-in-Fin-2.result l c.args.b.now
    (by_most_amount c.args.lo c.in-Fin-2.n p c.quotient-in-Fin-2.result c.amount-in-Fin-2.result k c.args.b.now c.in-Fin-2.is at f (record { sfits = c.quotient-in-Fin-2.type_inv }) c.quotient-in-Fin-2.ensures at_k c.amount-in-Fin-2.ensures.value) all
