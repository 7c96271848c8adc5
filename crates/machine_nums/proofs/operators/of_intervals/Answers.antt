use Rattle.std.proofs.Common.{refl, sym, subst}
use Rattle.num_api.specs.declared.message.Range.{Range}
use Rattle.num_api.specs.Ranges.{NoWider}
use Rattle.num_api.specs.Spans.{range_of, IsNotByZero}
use Rattle.intervals.specs.Interval.{ends_of}
use Rattle.machine_nums.specs.Rule.{type_span}
use Rattle.machine_nums.proofs.Typed.{bits_inside, logical_bounds}
use Rattle.machine_nums.proofs.operators.of_intervals.Goals as goal

pub returns-else-divides_by_zero-clause-holds : goal.returns-else-divides_by_zero-clause-holds
returns-else-divides_by_zero-clause-holds c = λ x y n i j e. c.range.ensures.holds n (c.binary.ensures.holds x y n i j e)

pub returns-else-divides_by_zero-clause-plain : goal.returns-else-divides_by_zero-clause-plain
returns-else-divides_by_zero-clause-plain c = λ p q u w f k g e h.
    let apart = subst (IsNotByZero c.args.op) c.range-divisor.ensures.value (c.divides_by_zero.ensures.no c.if-divides_by_zero.false) in
    subst (λ (r : Range). NoWider r (range_of u)) (sym c.range.ensures.value) (c.binary.ensures.plain p q u refl apart w f k g e h)

pub returns-else-divides_by_zero-clause-bits : goal.returns-else-divides_by_zero-clause-bits
returns-else-divides_by_zero-clause-bits c = λ t l i j.
    subst (λ (r : Range). NoWider r (range_of (type_span t))) (sym c.range.ensures.value)
    (bits_inside c.args.op t (ends_of c.args.a.now) (ends_of c.args.b.now) (ends_of c.binary.result) l (logical_bounds c.args.op c.args.a.now c.args.b.now c.binary.result l c.binary.ensures.bounds) i j)
