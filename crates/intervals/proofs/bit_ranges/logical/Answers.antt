use Rattle.std.proofs.Common.{◌≡◌, ℤ, Some, subst}
use Rattle.num_api.specs.Value.{binary_value}
use Rattle.intervals.specs.Interval.{Admits}
use Rattle.num_api.specs.declared.message.Range.{Range}
use Rattle.intervals.specs.Interval.{ends_of}
use Rattle.intervals.specs.Bounds.{BitBounds}
use Rattle.intervals.proofs.BitRanges.{by_sign}
use Rattle.intervals.proofs.BitBounds.{first_part, bounds_hull, hull_is, no_sizes}
use Rattle.intervals.proofs.bit_ranges.logical.Goals as goal

pub returns-in-Some-Some : goal.returns-in-Some-Some
returns-in-Some-Some c = record {
  holds = λ x y n p q e. by_sign x
      (λ m g. c.hull.ensures.left n (c.of_sizes.ensures.holds m y n c.requires ((rw c.in-Some-Some.is-0 at c.sizes.ensures.some) m (subst (λ (z : ℤ). Admits c.args.a.now z) g p)) q (subst (λ (z : ℤ). binary_value c.args.op z y ≡ Some n) g e)))
      (λ m g. c.hull.ensures.right n (c.of_sizes-in-Some-Some.ensures.holds m y n c.requires (c.in-Some-Some.ensures.some m (subst (λ (z : ℤ). Admits c.args.a.now z) g p)) q (subst (λ (z : ℤ). binary_value c.args.op z y ≡ Some n) g e)));
  bounds =
      let op = c.args.op in
      let l = c.requires in
      let a = ends_of c.args.a.now in
      let b = ends_of c.args.b.now in
      let below = rw c.in-Some-Some.is-0 at c.sizes.ensures.bounds in
      let above = c.in-Some-Some.ensures.bounds in
      subst (λ (s : Range). BitBounds op a b s) (hull_is c.of_sizes.result c.of_sizes-in-Some-Some.result c.hull.result c.hull.ensures.ends)
      (bounds_hull op l a b (ends_of c.of_sizes.result) (ends_of c.of_sizes-in-Some-Some.result)
      (first_part op l _ a b (ends_of c.of_sizes.result) below.within (c.of_sizes.ensures.bounds l below.natural))
      (first_part op l _ a b (ends_of c.of_sizes-in-Some-Some.result) above.within (c.of_sizes-in-Some-Some.ensures.bounds l above.natural)));
}

pub returns-in-Some-None : goal.returns-in-Some-None
returns-in-Some-None c = record {
  holds = λ x y n p q e. by_sign x
      (λ m g. c.of_sizes-in-Some-None.ensures.holds m y n c.requires ((rw c.in-Some-None.is-0 at c.sizes.ensures.some) m (subst (λ (z : ℤ). Admits c.args.a.now z) g p)) q (subst (λ (z : ℤ). binary_value c.args.op z y ≡ Some n) g e))
      (λ m g. absurd (c.in-Some-None.ensures.none m (subst (λ (z : ℤ). Admits c.args.a.now z) g p)));
  bounds =
      let below = rw c.in-Some-None.is-0 at c.sizes.ensures.bounds in
      first_part c.args.op c.requires _ (ends_of c.args.a.now) (ends_of c.args.b.now) (ends_of c.of_sizes-in-Some-None.result) below.within (c.of_sizes-in-Some-None.ensures.bounds c.requires below.natural);
}

pub returns-in-None-Some : goal.returns-in-None-Some
returns-in-None-Some c = record {
  holds = λ x y n p q e. by_sign x
      (λ m g. absurd ((rw c.in-None-Some.is-0 at c.sizes.ensures.none) m (subst (λ (z : ℤ). Admits c.args.a.now z) g p)))
      (λ m g. c.of_sizes-in-None-Some.ensures.holds m y n c.requires (c.in-None-Some.ensures.some m (subst (λ (z : ℤ). Admits c.args.a.now z) g p)) q (subst (λ (z : ℤ). binary_value c.args.op z y ≡ Some n) g e));
  bounds =
      let above = c.in-None-Some.ensures.bounds in
      first_part c.args.op c.requires _ (ends_of c.args.a.now) (ends_of c.args.b.now) (ends_of c.of_sizes-in-None-Some.result) above.within (c.of_sizes-in-None-Some.ensures.bounds c.requires above.natural);
}

pub returns-in-None-None-clause-bounds : goal.returns-in-None-None-clause-bounds
returns-in-None-None-clause-bounds c = absurd (no_sizes c.args.a.now (rw c.in-None-None.is-0 at c.sizes.ensures.none) c.in-None-None.ensures.none)
