use Rattle.std.proofs.Common.{refl, sym, subst}
use Rattle.num_api.specs.declared.message.Range.{Range}
use Rattle.num_api.specs.Ranges.{InRange}
use Rattle.num_api.specs.Spans.{range_of}
use Rattle.num_api.proofs.Parts.{wider}
use Rattle.machine_nums.proofs.Wrapped.{inside_has, has_inside, point_holds, point_from}
use Rattle.machine_nums.proofs.Typed.{shifted_has}
use Rattle.machine_nums.proofs.operators.shifted_range.Goals as goal

pub returns-then-lies_in-clause-holds : goal.returns-then-lies_in-clause-holds
returns-then-lies_in-clause-holds c = λ x y n i j e.
    c.meet.ensures.holds n (c.binary_range-found.ensures.holds x y n i j e)
    (subst (λ (r : Range). InRange r n) (sym c.type_range.ensures.value) (has_inside c.args.t n (shifted_has c.args.t x y n (inside_has c.args.t c.args.r x (c.if-lies_in.ensures.0 refl) i) e)))

pub returns-then-lies_in-clause-point : goal.returns-then-lies_in-clause-point
returns-then-lies_in-clause-point c = λ x y n p q e f.
    let i = point_holds c.args.r x p in let j = point_holds c.args.s y q in
    point_from c.meet.result c.binary_range-found.result n n (c.meet.ensures.holds n (c.binary_range-found.ensures.holds x y n i j e)
    (subst (λ (r : Range). InRange r n) (sym c.type_range.ensures.value) (has_inside c.args.t n (shifted_has c.args.t x y n (inside_has c.args.t c.args.r x (c.if-lies_in.ensures.0 refl) i) e))))
    c.meet.ensures.first (c.binary_range-found.ensures.point x y n p q e f)

pub returns-then-lies_in-clause-plain : goal.returns-then-lies_in-clause-plain
returns-then-lies_in-clause-plain c = λ p q u w f k g e h. wider c.meet.result c.binary_range-found.result (range_of u) c.meet.ensures.first (c.binary_range-found.ensures.plain p q u w f k g e h)
