-- The bounds of remainders.
use Rattle.std.proofs.Common.{◌≡◌, ◌≢◌, ℕ, ℤ, pos, negsuc, suc, ◌<◌, ◌≤◌, ◌-ℤ◌, neg_ℤ, ◌≤ℤ◌, ◌<ℤ◌, ◌⊎◌, ⊎_elim, arith, refl, sym, ap, subst, FitsSigned}
use Rattle.std.specs.Prelude.{int_rem}
use Rattle.std.specs.Int.{int_min, int_max}
use Rattle.std.specs.Int.RustNames.{unsigned_abs}
use Rattle.std.proofs.lemmas.Int.{ints, by_lt_z}
use Rattle.std.proofs.Math.Nat.{mod-eq_of_lt}
use mir.Syntax.{w128}
use Rattle.ext_int.specs.declared.Ext.{Ext}
use Rattle.ext_int.specs.declared.Ext.TheVariants.{Low, Fin, High}
use Rattle.ext_int.specs.Ext.{Below, Above, AtMost, lesser, greater, rounded_low, negation}
use Rattle.ext_int.proofs.Ends.{AtMost_refl, AtMost_trans, low_end-fits, lesser_greatest, greater_least, greater_first, greater_second, lesser_first, lesser_second, number_between}
use Rattle.num_api.specs.Ranges.{NoWider}
use Rattle.intervals.specs.declared.Interval.{Interval}
use Rattle.intervals.specs.Interval.{Admits, IsPoint, IsFinite, LiesBetween, ends_of, least_end, greatest_end}
use Rattle.intervals.specs.Operations.{HoldsRemainders, size_less_one, greatest_remainder}
use Rattle.intervals.specs.Bounds.{IsSmaller, AreSmaller, SideBounds, RemBounds}
use Rattle.intervals.proofs.Inside.{ends_in_order, has_number}
use Rattle.intervals.proofs.Remainders.{less_one, IsRemainder, remainder_is, low_remainder, high_remainder}

-- ---- numbers

-- a number is its own remainder by one of greater size
smaller_remainder : (x y : ℤ) → IsSmaller x y → int_rem x y ≡ x
smaller_remainder (pos a) (pos b) h = ap pos (mod-eq_of_lt h)
smaller_remainder (pos a) (negsuc b) h = ap pos (mod-eq_of_lt h)
smaller_remainder (negsuc a) (pos b) h = ap (λ (m : ℕ). neg_ℤ (pos m)) (mod-eq_of_lt h)
smaller_remainder (negsuc a) (negsuc b) h = ap (λ (m : ℕ). neg_ℤ (pos m)) (mod-eq_of_lt h)

-- and 0 is no number of greater size
smaller_not_zero : (x y : ℤ) → IsSmaller x y → y ≢ pos 0
smaller_not_zero x y h e = let g : unsigned_abs x < unsigned_abs (pos 0) = subst (λ (z : ℤ). unsigned_abs x < unsigned_abs z) e h in absurd (omega arith)

-- one less than the size of a number from -(m + 1) to m + 1
less_one_most : (n : ℤ) (m : ℕ) → negsuc m ≤ℤ n → n ≤ℤ pos (suc m) → less_one n ≤ℤ pos m
less_one_most n m h k = by_lt_z (pos 0) n
    (λ above. let is : less_one n ≡ n -ℤ pos 1 = grind (arith, ints) in rw is (omega (arith, ints)))
    (λ below. let is : less_one n ≡ negsuc 0 -ℤ n = grind (arith, ints) in rw is (omega (arith, ints)))

-- ---- two points

-- the remainder of two numbers, as ends
record PointBounds (x y n : ℤ) : Type 0 where
  natural : pos 0 ≤ℤ x → (pos 0 ≤ℤ n) × (n ≤ℤ x)
  minus : x ≤ℤ pos 0 → (n ≤ℤ pos 0) × (x ≤ℤ n)
  size : (m : ℕ) → negsuc m ≤ℤ y → y ≤ℤ pos (suc m) → (neg_ℤ (pos m) ≤ℤ n) × (n ≤ℤ pos m)

point_remainder : (x y n : ℤ) → IsRemainder x y n → PointBounds x y n
point_remainder x y n r = record {
  natural = λ h. (from_low x n h r.low, to_high x n h r.high);
  minus = λ h. (to_zero x n h r.high, from_x x n h r.low);
  size = λ m h k. let most = less_one_most y m h k in (negated (less_one y) (pos m) n most r.size_low, upto (less_one y) (pos m) n most r.size_high);
}
  where
    from_low : (x n : ℤ) → pos 0 ≤ℤ x → int_min x (pos 0) ≤ℤ n → pos 0 ≤ℤ n
    from_low x n h k = grind (arith, ints)

    to_high : (x n : ℤ) → pos 0 ≤ℤ x → n ≤ℤ int_max x (pos 0) → n ≤ℤ x
    to_high x n h k = grind (arith, ints)

    to_zero : (x n : ℤ) → x ≤ℤ pos 0 → n ≤ℤ int_max x (pos 0) → n ≤ℤ pos 0
    to_zero x n h k = grind (arith, ints)

    from_x : (x n : ℤ) → x ≤ℤ pos 0 → int_min x (pos 0) ≤ℤ n → x ≤ℤ n
    from_x x n h k = grind (arith, ints)

    negated : (k m n : ℤ) → k ≤ℤ m → neg_ℤ k ≤ℤ n → neg_ℤ m ≤ℤ n
    negated k m n h i = omega (arith, ints)

    upto : (k m n : ℤ) → k ≤ℤ m → n ≤ℤ k → n ≤ℤ m
    upto k m n h i = omega (arith, ints)

pub point_bounds : (a b r : Interval) (x y : ℤ) → IsPoint a x → IsPoint b y → y ≢ pos 0 → IsPoint r (int_rem x y) → RemBounds a b r
point_bounds a b r x y at_x at_y ne at_r =
    let n = int_rem x y in
    let s = point_remainder x y n (remainder_is x y ne) in
    record {
      sides = record {
        natural = λ h. let t = s.natural (subst (AtMost (Fin (pos 0))) at_x.0 h) in
            (subst (AtMost (Fin (pos 0))) (sym at_r.0) t.0, upto (greatest_end r) (greatest_end a) n x at_r.1 at_x.1 t.1);
        minus = λ h. let t = s.minus (subst (λ (e : Ext). AtMost e (Fin (pos 0))) at_x.1 h) in
            (subst (λ (e : Ext). AtMost e (Fin (pos 0))) (sym at_r.1) t.0, upto (least_end a) (least_end r) x n at_x.0 at_r.0 t.1);
        size = λ m f w. let t = s.size m (subst (AtMost (Fin (negsuc m))) at_y.0 w.0) (subst (λ (e : Ext). AtMost e (Fin (pos (suc m)))) at_y.1 w.1) in
            (subst (AtMost (Fin (neg_ℤ (pos m)))) (sym at_r.0) t.0, subst (λ (e : Ext). AtMost e (Fin (pos m))) (sym at_r.1) t.1);
      };
      smaller = λ finite all.
          let same : n ≡ x = smaller_remainder x y (all x y (has_number a x at_x) (has_number b y at_y)) in
          record {
            low = upto (least_end a) (least_end r) x n at_x.0 at_r.0 (le_same x n same);
            high = upto (greatest_end r) (greatest_end a) n x at_r.1 at_x.1 (ge_same x n same);
          };
    }
  where
    upto : (e f : Ext) (x y : ℤ) → e ≡ Fin x → f ≡ Fin y → x ≤ℤ y → AtMost e f
    upto e f x y p q h = rw (p, q) h

    le_same : (x n : ℤ) → n ≡ x → x ≤ℤ n
    le_same x n e = omega (arith, ints)

    ge_same : (x n : ℤ) → n ≡ x → n ≤ℤ x
    ge_same x n e = omega (arith, ints)

-- ---- ranges

size_most : (e : Ext) (m : ℕ) → AtMost (Fin (negsuc m)) e → AtMost e (Fin (pos (suc m))) → AtMost (size_less_one e) (Fin (pos m))
size_most Low m h k = absurd h
size_most (Fin n) m h k = less_one_most n m h k
size_most High m h k = absurd k

-- so is the greatest size of a remainder
remainder_most : (b : Interval) (m : ℕ) → LiesBetween (negsuc m) (pos (suc m)) b → AtMost (greatest_remainder b) (Fin (pos m))
remainder_most b m w =
    let order = ends_in_order b in
    greater_least (Fin (pos m)) (Fin (pos 0)) (greater (size_less_one (least_end b)) (size_less_one (greatest_end b))) (natural m)
    (greater_least (Fin (pos m)) (size_less_one (least_end b)) (size_less_one (greatest_end b))
    (size_most (least_end b) m w.0 (AtMost_trans (least_end b) (greatest_end b) (Fin (pos (suc m))) order w.1))
    (size_most (greatest_end b) m (AtMost_trans (Fin (negsuc m)) (least_end b) (greatest_end b) w.0 order) w.1))
  where
    natural : (m : ℕ) → pos 0 ≤ℤ pos m
    natural m = omega (arith, ints)

-- its negation is a bound that an i128 holds
negated_most : (e : Ext) (m : ℕ) → FitsSigned w128 (pos m) → AtMost (Fin (pos 0)) e → AtMost e (Fin (pos m)) → AtMost (Fin (neg_ℤ (pos m))) (rounded_low (negation e))
negated_most Low m f h k = absurd h
negated_most (Fin n) m f h k = subst (AtMost (Fin (neg_ℤ (pos m)))) (sym (low_end-fits (neg_ℤ n) (fits n m f h k))) (turned n m k)
  where
    fits : (n : ℤ) (m : ℕ) → FitsSigned w128 (pos m) → pos 0 ≤ℤ n → n ≤ℤ pos m → FitsSigned w128 (neg_ℤ n)
    fits n m f h k = omega (arith, ints)

    turned : (n : ℤ) (m : ℕ) → n ≤ℤ pos m → neg_ℤ (pos m) ≤ℤ neg_ℤ n
    turned n m k = omega (arith, ints)
negated_most High m f h k = absurd k

zero_itself : pos 0 ≤ℤ pos 0
zero_itself = omega (arith, ints)

pub side_bounds : (a b r : Interval) → least_end r ≡ low_remainder (greatest_remainder b) (least_end a) → greatest_end r ≡ high_remainder (greatest_remainder b) (greatest_end a) → SideBounds a b r
side_bounds a b r low high = record {
  natural = λ h. (
    subst (AtMost (Fin (pos 0))) (sym low)
        (AtMost_trans (Fin (pos 0)) (lesser (least_end a) (Fin (pos 0))) (low_remainder (greatest_remainder b) (least_end a)) (lesser_greatest (Fin (pos 0)) (least_end a) (Fin (pos 0)) h zero_itself) (greater_second (rounded_low (negation (greatest_remainder b))) (lesser (least_end a) (Fin (pos 0))))),
    subst (λ (e : Ext). AtMost e (greatest_end a)) (sym high)
        (AtMost_trans (high_remainder (greatest_remainder b) (greatest_end a)) (greater (greatest_end a) (Fin (pos 0))) (greatest_end a) (lesser_second (greatest_remainder b) (greater (greatest_end a) (Fin (pos 0))))
        (greater_least (greatest_end a) (greatest_end a) (Fin (pos 0)) (AtMost_refl (greatest_end a)) (AtMost_trans (Fin (pos 0)) (least_end a) (greatest_end a) h order))),
  );
  minus = λ h. (
    subst (λ (e : Ext). AtMost e (Fin (pos 0))) (sym high)
        (AtMost_trans (high_remainder (greatest_remainder b) (greatest_end a)) (greater (greatest_end a) (Fin (pos 0))) (Fin (pos 0)) (lesser_second (greatest_remainder b) (greater (greatest_end a) (Fin (pos 0)))) (greater_least (Fin (pos 0)) (greatest_end a) (Fin (pos 0)) h zero_itself)),
    subst (AtMost (least_end a)) (sym low)
        (AtMost_trans (least_end a) (lesser (least_end a) (Fin (pos 0))) (low_remainder (greatest_remainder b) (least_end a))
        (lesser_greatest (least_end a) (least_end a) (Fin (pos 0)) (AtMost_refl (least_end a)) (AtMost_trans (least_end a) (greatest_end a) (Fin (pos 0)) order h))
        (greater_second (rounded_low (negation (greatest_remainder b))) (lesser (least_end a) (Fin (pos 0))))),
  );
  size = λ k f w.
      let most = remainder_most b k w in (
        subst (AtMost (Fin (neg_ℤ (pos k)))) (sym low)
            (AtMost_trans (Fin (neg_ℤ (pos k))) (rounded_low (negation (greatest_remainder b))) (low_remainder (greatest_remainder b) (least_end a)) (negated_most (greatest_remainder b) k f (greater_first (Fin (pos 0)) (greater (size_less_one (least_end b)) (size_less_one (greatest_end b)))) most) (greater_first (rounded_low (negation (greatest_remainder b))) (lesser (least_end a) (Fin (pos 0))))),
        subst (λ (e : Ext). AtMost e (Fin (pos k))) (sym high)
            (AtMost_trans (high_remainder (greatest_remainder b) (greatest_end a)) (greatest_remainder b) (Fin (pos k)) (lesser_first (greatest_remainder b) (greater (greatest_end a) (Fin (pos 0)))) most),
      );
}
  where
    order : AtMost (least_end a) (greatest_end a)
    order = ends_in_order a

-- what lies inside has the bounds
sides_inside : (a b r s : Interval) → NoWider (ends_of s) (ends_of r) → SideBounds a b r → SideBounds a b s
sides_inside a b r s w h = record {
  natural = λ n. let t = h.natural n in (AtMost_trans (Fin (pos 0)) (least_end r) (least_end s) t.0 w.low, AtMost_trans (greatest_end s) (greatest_end r) (greatest_end a) w.high t.1);
  minus = λ n. let t = h.minus n in (AtMost_trans (greatest_end s) (greatest_end r) (Fin (pos 0)) w.high t.0, AtMost_trans (least_end a) (least_end r) (least_end s) t.1 w.low);
  size = λ k f l. let t = h.size k f l in (AtMost_trans (Fin (neg_ℤ (pos k))) (least_end r) (least_end s) t.0 w.low, AtMost_trans (greatest_end s) (greatest_end r) (Fin (pos k)) w.high t.1);
}

-- the part of the loose bounds inside the dividends
pub part_bounds : (a b loose r : Interval) → SideBounds a b loose → (least_end r ≡ greater (least_end loose) (least_end a)) × (greatest_end r ≡ lesser (greatest_end loose) (greatest_end a)) → RemBounds a b r
part_bounds a b loose r sides ends = record {
  sides = sides_inside a b loose r (record {
    low = subst (AtMost (least_end loose)) (sym ends.0) (greater_first (least_end loose) (least_end a));
    high = subst (λ (e : Ext). AtMost e (greatest_end loose)) (sym ends.1) (lesser_first (greatest_end loose) (greatest_end a));
  }) sides;
  smaller = λ finite all. record {
    low = subst (AtMost (least_end a)) (sym ends.0) (greater_second (least_end loose) (least_end a));
    high = subst (λ (e : Ext). AtMost e (greatest_end a)) (sym ends.1) (lesser_second (greatest_end loose) (greatest_end a));
  };
}

-- where no part is left, not every dividend is smaller than every divisor
pub no_part : (a b loose : Interval) → HoldsRemainders a b loose → ((n : ℤ) → Admits loose n → Below (least_end a) n → Above (greatest_end a) n → ⊥) → AreSmaller a b → ⊥
no_part a b loose holds none all =
    let x = number_between (least_end a) (greatest_end a) a.holds in
    let y = number_between (least_end b) (greatest_end b) b.holds in
    let less = all x.0 y.0 (x.1, x.2) (y.1, y.2) in
    none x.0 (subst (Admits loose) (smaller_remainder x.0 y.0 less) (holds.holds x.0 y.0 (x.1, x.2) (y.1, y.2) (smaller_not_zero x.0 y.0 less))) x.1 x.2

pub loose_bounds : (a b r : Interval) → SideBounds a b r → (AreSmaller a b → ⊥) → RemBounds a b r
loose_bounds a b r sides not_smaller = record { sides = sides; smaller = λ finite all. absurd (not_smaller all) }

pub loose_finite_bounds : (a b r : Interval) → SideBounds a b r → (IsFinite a → AreSmaller a b → ⊥) → RemBounds a b r
loose_finite_bounds a b r sides not_smaller = record { sides = sides; smaller = λ finite all. absurd (not_smaller finite all) }

-- ---- the test

-- 0 is of greater size than no number
pub zero_not_greater : (a b : Interval) → Admits b (pos 0) → AreSmaller a b → ⊥
zero_not_greater a b at_zero all =
    let x = number_between (least_end a) (greatest_end a) a.holds in
    let less = all x.0 (pos 0) (x.1, x.2) at_zero in
    absurd (omega arith)

-- a dividend of at least the size of a divisor
pub not_smaller : (a b : Interval) (x s u : ℤ) → Admits a x → Admits b s ⊎ Admits b (neg_ℤ s) → s <ℤ pos 0 → (u ≡ x) ⊎ (u ≡ neg_ℤ x) → u ≤ℤ s → AreSmaller a b → ⊥
not_smaller a b x s u at_x at_s negative size most all = ⊎_elim
    (λ (h : Admits b s). absurd (as_large x s u negative size most (all x s at_x h)))
    (λ (h : Admits b (neg_ℤ s)). absurd (as_large_turned x s u negative size most (all x (neg_ℤ s) at_x h)))
    at_s
  where
    sizes : (x s u : ℤ) → s <ℤ pos 0 → (u ≡ x) ⊎ (u ≡ neg_ℤ x) → u ≤ℤ s → unsigned_abs s ≤ unsigned_abs x
    sizes x s u h size k = ⊎_elim (λ (e : u ≡ x). first x s h (omega (arith, ints))) (λ (e : u ≡ neg_ℤ x). second x s h (omega (arith, ints))) size
      where
        first : (x s : ℤ) → s <ℤ pos 0 → x ≤ℤ s → unsigned_abs s ≤ unsigned_abs x
        first (pos x) (pos s) h k = absurd (omega (arith, ints))
        first (pos x) (negsuc s) h k = absurd (omega (arith, ints))
        first (negsuc x) (pos s) h k = absurd (omega (arith, ints))
        first (negsuc x) (negsuc s) h k = omega (arith, ints)

        second : (x s : ℤ) → s <ℤ pos 0 → neg_ℤ x ≤ℤ s → unsigned_abs s ≤ unsigned_abs x
        second (pos x) (pos s) h k = absurd (omega (arith, ints))
        second (pos x) (negsuc s) h k = omega (arith, ints)
        second (negsuc x) (pos s) h k = absurd (omega (arith, ints))
        second (negsuc x) (negsuc s) h k = absurd (omega (arith, ints))

    as_large : (x s u : ℤ) → s <ℤ pos 0 → (u ≡ x) ⊎ (u ≡ neg_ℤ x) → u ≤ℤ s → unsigned_abs x < unsigned_abs s → ⊥
    as_large x s u h size k less = let most = sizes x s u h size k in absurd (omega arith)

    turned_size : (s : ℤ) → s <ℤ pos 0 → unsigned_abs (neg_ℤ s) ≡ unsigned_abs s
    turned_size (pos s) h = absurd (omega (arith, ints))
    turned_size (negsuc s) h = refl

    as_large_turned : (x s u : ℤ) → s <ℤ pos 0 → (u ≡ x) ⊎ (u ≡ neg_ℤ x) → u ≤ℤ s → unsigned_abs x < unsigned_abs (neg_ℤ s) → ⊥
    as_large_turned x s u h size k less = let most = sizes x s u h size k in let e = turned_size s h in absurd (omega arith)
