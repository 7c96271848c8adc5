use Rattle.std.proofs.Common.{◌*ℤ◌, ◌∙◌, refl, sym, subst}
use Rattle.num_api.specs.declared.message.Range.{Range}
use Rattle.num_api.specs.Ranges.{InRange, IsPoint, NoWider}
use Rattle.num_api.specs.Spans.{range_of}
use Rattle.machine_nums.proofs.WrappedParts.{like_parts}
use Rattle.machine_nums.proofs.parts.like_product.Goals as goal

pub returns-then-is_bounded-clause-none : goal.returns-then-is_bounded-clause-none
returns-then-is_bounded-clause-none c = λ x y i j. c.is_bounded.ensures.fits c.if-is_bounded.true (x *ℤ y) (c.binary_range.ensures.holds x y (x *ℤ y) i j refl)

pub returns-clause-like : goal.returns-clause-like
returns-clause-like c =
    let range = sym c.changed.ensures.range in let found = c.binary_range-range.ensures in
    like_parts c.args.left.now c.args.right.now c.in_ok-first.first c.in_ok-second.second c.in_ok-a.a c.in_ok-b.b c.changed.result
    c.in_ok-first.ensures.tree c.in_ok-first.ensures.range c.in_ok-second.ensures.tree c.in_ok-second.ensures.range c.in_ok-a.ensures c.in_ok-b.ensures
    (c.changed.ensures.tree ∙ c.in_ok-plain.ensures) c.changed.ensures.kept
    (λ x y n i j q. subst (λ (r : Range). InRange r n) range (found.holds x y n i j q))
    (λ x y n p q e f. subst (λ (r : Range). IsPoint r n) range (found.point x y n p q e f))
    (λ p q u w f k h e l. subst (λ (r : Range). NoWider r (range_of u)) range (found.plain p q u w f k h e l))
