-- What quotients carry over to intervals.
use Rattle.std.proofs.Common.{◌≡◌, ◌≢◌, ℤ, pos, negsuc, zero, suc, ◌≤ℤ◌, ◌⊎◌, inl, inr, ⊎_elim, Option, Some, None, arith, refl, sym, ◌∙◌, ap, subst, FitsSigned, true, false}
use Rattle.std.specs.Prelude.{Bool, int_div, IsTrue, if◌then◌else◌}
use Rattle.std.specs.Int.{int_min, int_max}
use Rattle.std.specs.Int.RustNames.{int_lt}
use Rattle.std.specs.Ordering.{int_eq}
use Rattle.std.proofs.lemmas.Bool.Decides.{Decides-int_eq}
use Rattle.std.proofs.lemmas.Int.{ints}
use mir.Syntax.{w128}
use Rattle.ext_int.specs.declared.Ext.{Ext}
use Rattle.ext_int.specs.declared.Ext.TheVariants.{Low, Fin, High}
use Rattle.ext_int.specs.Ext.{Below, Above, IsNumber, IsPositive, IsNegative, holds_number}
use Rattle.ext_int.proofs.Ends.{le-from_int_le}
use Rattle.ext_int.proofs.Quotients.{ends_low, ends_high}
use Rattle.num_api.specs.declared.expr.NOp.TheVariants.{Quot}
use Rattle.num_api.specs.Ranges as ranges
use Rattle.num_api.specs.Spans.{Span, span, corners, quotients, quotients_by, joined, below_zero, above_zero}
use Rattle.intervals.specs.declared.Interval.{Interval}
use Rattle.intervals.specs.Interval.{Admits, IsPoint, IsFinite, IsBetween, LiesBetween, least_end, greatest_end}
use Rattle.intervals.specs.Operations.{Carries}
use Rattle.intervals.proofs.Parts.{by_side}
use Rattle.intervals.proofs.Inside.{within_number, within_finite}

-- ---- the value of a quotient

by_test : (b : Bool) (v n : ℤ) → (if b then None else Some v) ≡ Some n → (b ≡ false) × (v ≡ n)
by_test true v n e = cc
by_test false v n e = (refl, cc)

-- the operation has a value only by a divisor other than 0
pub by_not_zero : (v n y : ℤ) → (if int_eq y (pos 0) then None else Some v) ≡ Some n → (y ≢ pos 0) × (v ≡ n)
by_not_zero v n y e =
    let value = by_test (int_eq y (pos 0)) v n e in
    (λ same. let test = (Decides-int_eq y (pos 0)).1 same in cc (test, value.0), value.1)

-- ---- the corners of a part of the divisors

positive_end : (c : ℤ) → pos 1 ≤ℤ c → IsPositive (Fin c)
positive_end (pos zero) h = absurd (omega (arith, ints))
positive_end (pos (suc n)) h = tt
positive_end (negsuc n) h = absurd (omega (arith, ints))

negative_end : (d : ℤ) → d ≤ℤ negsuc 0 → IsNegative (Fin d)
negative_end (pos n) h = absurd (omega (arith, ints))
negative_end (negsuc n) h = tt

-- the divisors are all above 0, or all below
abbrev IsOnOneSide : Span → Type 0
IsOnOneSide t = (pos 1 ≤ℤ t.lo) ⊎ (t.hi ≤ℤ negsuc 0)

one_side_ends : (t : Span) → IsOnOneSide t → IsPositive (Fin t.lo) ⊎ IsNegative (Fin t.hi)
one_side_ends t one_side = ⊎_elim
    (λ (h : pos 1 ≤ℤ t.lo). inl (positive_end t.lo h))
    (λ (h : t.hi ≤ℤ negsuc 0). inr (negative_end t.hi h))
    one_side

-- the quotients lie between the corners
part_between : (s t : Span) (x y : ℤ) → IsOnOneSide t → IsBetween s.lo s.hi x → IsBetween t.lo t.hi y → IsBetween (corners int_div s t).lo (corners int_div s t).hi (int_div x y)
part_between s t x y one_side p q = (
  ends_low (Fin s.lo) (Fin s.hi) (Fin t.lo) (Fin t.hi) (Fin x) (Fin y) p.0 p.1 q.0 q.1 (one_side_ends t one_side),
  ends_high (Fin s.lo) (Fin s.hi) (Fin t.lo) (Fin t.hi) (Fin x) (Fin y) p.0 p.1 q.0 q.1 (one_side_ends t one_side),
)

between_others : (l h p q n : ℤ) → IsBetween p q n → l ≤ℤ p → q ≤ℤ h → IsBetween l h n
between_others l h p q n between low high = let first : p ≤ℤ n = between.0 in let second : n ≤ℤ q = between.1 in (omega (arith, ints), omega (arith, ints))

-- ---- both parts

joined_first : (q u : Span) (other : Option Span) → joined (Some q) other ≡ Some u → (u.lo ≤ℤ q.lo) × (q.hi ≤ℤ u.hi)
joined_first q u None e = let same : q ≡ u = cc in subst (λ (v : Span). (v.lo ≤ℤ q.lo) × (q.hi ≤ℤ v.hi)) same (omega (arith, ints), omega (arith, ints))
joined_first q u (Some r) e =
    let same : span (int_min q.lo r.lo) (int_max q.hi r.hi) ≡ u = cc in
    subst (λ (v : Span). (v.lo ≤ℤ q.lo) × (q.hi ≤ℤ v.hi)) same (least_first q.lo r.lo, greatest_first q.hi r.hi)
  where
    least_first : (x y : ℤ) → int_min x y ≤ℤ x
    least_first x y = grind (arith, ints)

    greatest_first : (x y : ℤ) → x ≤ℤ int_max x y
    greatest_first x y = grind (arith, ints)

joined_second : (q u : Span) (other : Option Span) → joined other (Some q) ≡ Some u → (u.lo ≤ℤ q.lo) × (q.hi ≤ℤ u.hi)
joined_second q u None e = let same : q ≡ u = cc in subst (λ (v : Span). (v.lo ≤ℤ q.lo) × (q.hi ≤ℤ v.hi)) same (omega (arith, ints), omega (arith, ints))
joined_second q u (Some r) e =
    let same : span (int_min r.lo q.lo) (int_max r.hi q.hi) ≡ u = cc in
    subst (λ (v : Span). (v.lo ≤ℤ q.lo) × (q.hi ≤ℤ v.hi)) same (least_second r.lo q.lo, greatest_second r.hi q.hi)
  where
    least_second : (x y : ℤ) → int_min x y ≤ℤ y
    least_second x y = grind (arith, ints)

    greatest_second : (x y : ℤ) → y ≤ℤ int_max x y
    greatest_second x y = grind (arith, ints)

part_below : (t : Span) → t.lo ≤ℤ negsuc 0 → below_zero t ≡ Some (span t.lo (int_min t.hi (negsuc 0)))
part_below t h = let test : int_lt t.lo (pos 0) ≡ true = grind (arith, ints) in rw test refl

part_above : (t : Span) → pos 1 ≤ℤ t.hi → above_zero t ≡ Some (span (int_max t.lo (pos 1)) t.hi)
part_above t h = let test : int_lt (pos 0) t.hi ≡ true = grind (arith, ints) in rw test refl

quotient_between : (s t u : Span) (x y : ℤ) → quotients s t ≡ Some u → IsBetween s.lo s.hi x → IsBetween t.lo t.hi y → y ≢ pos 0 → IsBetween u.lo u.hi (int_div x y)
quotient_between s t u x y e p q ne = ⊎_elim
    (λ (h : y ≤ℤ negsuc 0).
    let part = span t.lo (int_min t.hi (negsuc 0)) in
    let there : below_zero t ≡ Some part = part_below t (omega (arith, ints, q.0, h)) in
    let ends = joined_first (corners int_div s part) u (quotients_by s (above_zero t)) (ap (λ o. joined (quotients_by s o) (quotients_by s (above_zero t))) (sym there) ∙ e) in
    between_others u.lo u.hi _ _ (int_div x y) (part_between s part x y (inr (at_most_second t.hi)) p (q.0, both_least y t.hi q.1 h)) ends.0 ends.1)
    (λ (h : pos 1 ≤ℤ y).
    let part = span (int_max t.lo (pos 1)) t.hi in
    let there : above_zero t ≡ Some part = part_above t (omega (arith, ints, q.1, h)) in
    let ends = joined_second (corners int_div s part) u (quotients_by s (below_zero t)) (ap (λ o. joined (quotients_by s (below_zero t)) (quotients_by s o)) (sym there) ∙ e) in
    between_others u.lo u.hi _ _ (int_div x y) (part_between s part x y (inl (at_least_second t.lo)) p (both_greatest y t.lo q.0 h, q.1)) ends.0 ends.1)
    (by_side y ne)
  where
    at_most_second : (x : ℤ) → int_min x (negsuc 0) ≤ℤ negsuc 0
    at_most_second x = grind (arith, ints)

    at_least_second : (x : ℤ) → pos 1 ≤ℤ int_max x (pos 1)
    at_least_second x = grind (arith, ints)

    both_least : (y x : ℤ) → y ≤ℤ x → y ≤ℤ negsuc 0 → y ≤ℤ int_min x (negsuc 0)
    both_least y x h k = grind (arith, ints)

    both_greatest : (y x : ℤ) → x ≤ℤ y → pos 1 ≤ℤ y → int_max x (pos 1) ≤ℤ y
    both_greatest y x h k = grind (arith, ints)

-- ---- a divisor other than 0

other_divisor : (c d : Ext) → IsNumber c → IsNumber d → IsTrue (holds_number c d) → (ranges.IsPoint (record { lo = c; hi = d }) (pos 0) → ⊥) → (y : ℤ) × Below c y × Above d y × (y ≢ pos 0)
other_divisor (Fin (pos zero)) (Fin (pos zero)) p q held not_zero = absurd (not_zero (record { low = refl; high = refl }))
other_divisor (Fin (pos zero)) (Fin (pos (suc h))) p q held not_zero = (pos (suc h), le-from_int_le (pos zero) (pos (suc h)) held, omega (arith, ints), λ e. cc)
other_divisor (Fin (pos zero)) (Fin (negsuc h)) p q held not_zero = absurd (let order = le-from_int_le (pos zero) (negsuc h) held in omega (arith, ints))
other_divisor (Fin (pos (suc l))) (Fin h) p q held not_zero = (pos (suc l), omega (arith, ints), le-from_int_le (pos (suc l)) h held, λ e. cc)
other_divisor (Fin (negsuc l)) (Fin h) p q held not_zero = (negsuc l, omega (arith, ints), le-from_int_le (negsuc l) h held, λ e. cc)
other_divisor Low d p q held not_zero = absurd p
other_divisor High d p q held not_zero = absurd p
other_divisor (Fin (pos zero)) Low p q held not_zero = absurd q
other_divisor (Fin (pos zero)) High p q held not_zero = absurd q
other_divisor (Fin (pos (suc l))) Low p q held not_zero = absurd q
other_divisor (Fin (pos (suc l))) High p q held not_zero = absurd q
other_divisor (Fin (negsuc l)) Low p q held not_zero = absurd q
other_divisor (Fin (negsuc l)) High p q held not_zero = absurd q

-- ---- quotients of intervals

pub record IsQuotientOf (a b r : Interval) : Type 0 where
  pub keeps : (x y : ℤ) → Admits a x → Admits b y → y ≢ pos 0 → Admits r (int_div x y)
  pub point : (x y : ℤ) → IsPoint a x → IsPoint b y → y ≢ pos 0 → FitsSigned w128 (int_div x y) → IsPoint r (int_div x y)
  pub least : (l h d : ℤ) → FitsSigned w128 l → FitsSigned w128 h → IsFinite a → IsFinite b → Admits b d → d ≢ pos 0 → ((x y : ℤ) → Admits a x → Admits b y → y ≢ pos 0 → IsBetween l h (int_div x y)) → LiesBetween l h r

pub carries_quotient : (a b r : Interval) → IsQuotientOf a b r → Carries Quot a b r
carries_quotient a b r quotient = record {
  holds = λ x y n p q e.
      let value = by_not_zero (int_div x y) n y e in
      subst (λ (z : ℤ). Admits r z) value.1 (quotient.keeps x y p q value.0);
  point = λ x y n p q e g.
      let value = by_not_zero (int_div x y) n y e in
      subst (λ (z : ℤ). IsPoint r z) value.1 (quotient.point x y p q value.0 (subst (λ (z : ℤ). FitsSigned w128 z) (sym value.1) g));
  plain = λ s t u not_by_zero fits_s p fits_t q e g.
      let finite_a = within_finite s a p in
      let finite_b = within_finite t b q in
      let d = other_divisor (least_end b) (greatest_end b) finite_b.0 finite_b.1 b.holds (not_by_zero refl) in
      quotient.least u.lo u.hi d.0 g.low g.high finite_a finite_b (d.1, d.2) d.3
      (λ x y i j ne. quotient_between s t u x y e (within_number s a x p i) (within_number t b y q j) ne);
}
