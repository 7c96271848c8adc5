use Rattle.std.proofs.Common.{◌≡◌, ℤ, Some, subst}
use Rattle.num_api.specs.Value.{binary_value}
use Rattle.intervals.specs.Interval.{Admits}
use Rattle.intervals.specs.Bits.{of_sign}
use Rattle.num_api.specs.declared.message.Range.{Range}
use Rattle.intervals.specs.Interval.{ends_of}
use Rattle.intervals.specs.Bounds.{BitBounds, signed}
use Rattle.intervals.proofs.BitRanges.{by_sign}
use Rattle.intervals.proofs.BitBounds.{second_part, bounds_hull, hull_is, no_sizes}
use Rattle.intervals.proofs.bit_ranges.of_sizes.Goals as goal

pub returns-in-Some-Some : goal.returns-in-Some-Some
returns-in-Some-Some c = record {
  holds = λ x y n l p q e. by_sign y
      (λ m g. c.hull.ensures.left n (c.of_signs.ensures.holds x m n l p ((rw c.in-Some-Some.is-0 at c.sizes.ensures.some) m (subst (λ (z : ℤ). Admits c.args.b.now z) g q)) (subst (λ (z : ℤ). binary_value c.args.op (of_sign c.args.minus x) z ≡ Some n) g e)))
      (λ m g. c.hull.ensures.right n (c.of_signs-in-Some-Some.ensures.holds x m n l p (c.in-Some-Some.ensures.some m (subst (λ (z : ℤ). Admits c.args.b.now z) g q)) (subst (λ (z : ℤ). binary_value c.args.op (of_sign c.args.minus x) z ≡ Some n) g e)));
  bounds = λ l n.
      let op = c.args.op in
      let a = signed c.args.minus (ends_of c.args.a) in
      let b = ends_of c.args.b.now in
      let below = rw c.in-Some-Some.is-0 at c.sizes.ensures.bounds in
      let above = c.in-Some-Some.ensures.bounds in
      subst (λ (s : Range). BitBounds op a b s) (hull_is c.of_signs.result c.of_signs-in-Some-Some.result c.hull.result c.hull.ensures.ends)
      (bounds_hull op l a b (ends_of c.of_signs.result) (ends_of c.of_signs-in-Some-Some.result)
      (second_part op l _ a b (ends_of c.of_signs.result) below.within (c.of_signs.ensures.bounds l n below.natural))
      (second_part op l _ a b (ends_of c.of_signs-in-Some-Some.result) above.within (c.of_signs-in-Some-Some.ensures.bounds l n above.natural)));
}

pub returns-in-Some-None : goal.returns-in-Some-None
returns-in-Some-None c = record {
  holds = λ x y n l p q e. by_sign y
      (λ m g. c.of_signs-in-Some-None.ensures.holds x m n l p ((rw c.in-Some-None.is-0 at c.sizes.ensures.some) m (subst (λ (z : ℤ). Admits c.args.b.now z) g q)) (subst (λ (z : ℤ). binary_value c.args.op (of_sign c.args.minus x) z ≡ Some n) g e))
      (λ m g. absurd (c.in-Some-None.ensures.none m (subst (λ (z : ℤ). Admits c.args.b.now z) g q)));
  bounds = λ l n.
      let below = rw c.in-Some-None.is-0 at c.sizes.ensures.bounds in
      second_part c.args.op l _ (signed c.args.minus (ends_of c.args.a)) (ends_of c.args.b.now) (ends_of c.of_signs-in-Some-None.result) below.within (c.of_signs-in-Some-None.ensures.bounds l n below.natural);
}

pub returns-in-None-Some : goal.returns-in-None-Some
returns-in-None-Some c = record {
  holds = λ x y n l p q e. by_sign y
      (λ m g. absurd ((rw c.in-None-Some.is-0 at c.sizes.ensures.none) m (subst (λ (z : ℤ). Admits c.args.b.now z) g q)))
      (λ m g. c.of_signs-in-None-Some.ensures.holds x m n l p (c.in-None-Some.ensures.some m (subst (λ (z : ℤ). Admits c.args.b.now z) g q)) (subst (λ (z : ℤ). binary_value c.args.op (of_sign c.args.minus x) z ≡ Some n) g e));
  bounds = λ l n.
      let above = c.in-None-Some.ensures.bounds in
      second_part c.args.op l _ (signed c.args.minus (ends_of c.args.a)) (ends_of c.args.b.now) (ends_of c.of_signs-in-None-Some.result) above.within (c.of_signs-in-None-Some.ensures.bounds l n above.natural);
}

pub returns-in-None-None-clause-bounds : goal.returns-in-None-None-clause-bounds
returns-in-None-None-clause-bounds c = λ l n. absurd (no_sizes c.args.b.now (rw c.in-None-None.is-0 at c.sizes.ensures.none) c.in-None-None.ensures.none)
