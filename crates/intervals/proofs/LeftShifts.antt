-- Products of the numbers of an interval by the powers of two of another's amounts.
use Rattle.std.proofs.Common.{◌≡◌, ℕ, ℤ, pos, negsuc, suc, ◌+◌, ◌-◌, ◌^◌, ◌≤◌, ◌*ℤ◌, ◌≤ℤ◌, ◌<ℤ◌, neg_ℤ, arith, refl, sym, ◌∙◌, ap, subst, FitsSigned}
use Rattle.std.proofs.Math.IntN.{*ℤ_comm, zero-*ℤ}
use Rattle.std.specs.Prelude.{Option, Some, None, IfSome, IfNone}
use Rattle.std.proofs.Math.Nat.{pow-le-pow_right}
use Rattle.std.proofs.lemmas.Int.{ints, by_lt_z}
use mir.Syntax.{w128}
use Rattle.ext_int.specs.declared.Ext.{Ext}
use Rattle.ext_int.specs.declared.Ext.TheVariants.{Low, Fin, High}
use Rattle.ext_int.specs.Ext.{Below, Above, AtMost}
use Rattle.ext_int.proofs.Ends.{fits_between}
use Rattle.ext_int.proofs.Products.{mul-le_pos, mul-le_neg}
use Rattle.intervals.specs.declared.Interval.{Interval}
use Rattle.intervals.specs.Interval.{Admits, IsPoint, least_end, greatest_end, IsBetween}
use Rattle.intervals.specs.Shifts.{IsShifted, IsShiftedAway, AreProductsBetween}
use Rattle.intervals.specs.Bounds.{IsBelowValues, IsAboveValues, ShlBounds, ShrBounds}
use Rattle.intervals.specs.Widening.{step_or}
use Rattle.num_api.specs.declared.expr.NOp.TheVariants.{Shl, Shr}
use Rattle.num_api.specs.Value.{binary_value}
use Rattle.intervals.proofs.BitRanges.{above_down, below_up, below_power}

-- ---- powers of two

times_one : (x : ℤ) → x *ℤ pos (2 ^ 0) ≡ x
times_one (pos a) = ap pos (omega arith)
times_one (negsuc a) = omega (arith, ints)

-- a greater number has the greater product
greater_number : (x y : ℤ) (k : ℕ) → x ≤ℤ y → (x *ℤ pos (2 ^ k)) ≤ℤ (y *ℤ pos (2 ^ k))
greater_number x y k h = subst (λ (z : ℤ). z ≤ℤ (y *ℤ pos (2 ^ k))) (*ℤ_comm (pos (2 ^ k)) x) (subst (λ (z : ℤ). (pos (2 ^ k) *ℤ x) ≤ℤ z) (*ℤ_comm (pos (2 ^ k)) y) (mul-le_pos (2 ^ k) x y h))

powers : (j k : ℕ) → j ≤ k → 2 ^ j ≤ 2 ^ k
powers j k h = pow-le-pow_right (omega arith) h

-- by a greater power one from 0 up has the greater product, and one below 0 the lesser
greater_power : (x : ℤ) (j k : ℕ) → pos 0 ≤ℤ x → j ≤ k → (x *ℤ pos (2 ^ j)) ≤ℤ (x *ℤ pos (2 ^ k))
greater_power (pos a) j k h i = let p = powers j k i in mul-le_pos a (pos (2 ^ j)) (pos (2 ^ k)) (omega (arith, ints))
greater_power (negsuc a) j k h i = absurd (omega (arith, ints))

lesser_power : (x : ℤ) (j k : ℕ) → x <ℤ pos 0 → j ≤ k → (x *ℤ pos (2 ^ k)) ≤ℤ (x *ℤ pos (2 ^ j))
lesser_power (pos a) j k h i = absurd (omega (arith, ints))
lesser_power (negsuc a) j k h i = let p = powers j k i in mul-le_neg a (pos (2 ^ j)) (pos (2 ^ k)) (omega (arith, ints))

le_trans : (x y z : ℤ) → x ≤ℤ y → y ≤ℤ z → x ≤ℤ z
le_trans x y z h i = omega (arith, ints)

from_zero_up : (x : ℤ) (k : ℕ) → pos 0 ≤ℤ x → x ≤ℤ (x *ℤ pos (2 ^ k))
from_zero_up x k h = subst (λ (z : ℤ). z ≤ℤ (x *ℤ pos (2 ^ k))) (times_one x) (greater_power x 0 k h (omega arith))

from_zero_down : (x : ℤ) (k : ℕ) → x <ℤ pos 0 → (x *ℤ pos (2 ^ k)) ≤ℤ x
from_zero_down x k h = subst (λ (z : ℤ). (x *ℤ pos (2 ^ k)) ≤ℤ z) (times_one x) (lesser_power x 0 k h (omega arith))

le_along : (x y z : ℤ) → y ≡ x → x ≤ℤ z → y ≤ℤ z
le_along x y z e h = omega (arith, ints)

le_upto : (x y z : ℤ) → y ≡ x → z ≤ℤ x → z ≤ℤ y
le_upto x y z e h = omega (arith, ints)

-- ---- an end's product is at or below all, or at or above

low_by_most : (n x z : ℤ) (hi : Ext) (k : ℕ) → n <ℤ pos 0 → IsShifted n hi z → n ≤ℤ x → Above hi (pos k) → z ≤ℤ (x *ℤ pos (2 ^ k))
low_by_most n x z Low k h s i a = absurd a
low_by_most n x z (Fin (pos m)) k h s i a =
    let most : k ≤ m = omega (arith, ints) in
    le_along (n *ℤ pos (2 ^ m)) z _ s (le_trans _ (n *ℤ pos (2 ^ k)) _ (lesser_power n k m h most) (greater_number n x k i))
low_by_most n x z (Fin (negsuc m)) k h s i a = absurd (omega (arith, ints))
low_by_most n x z High k h s i a = let e = s.0 in absurd (omega (arith, ints))

low_by_least : (n x z : ℤ) (lo : Ext) (k : ℕ) → pos 0 ≤ℤ n → IsShifted n lo z → n ≤ℤ x → Below lo (pos k) → z ≤ℤ (x *ℤ pos (2 ^ k))
low_by_least n x z Low k h s i a = le_along n z _ s (le_trans n (n *ℤ pos (2 ^ k)) _ (from_zero_up n k h) (greater_number n x k i))
low_by_least n x z (Fin (pos m)) k h s i a =
    let least : m ≤ k = omega (arith, ints) in
    le_along (n *ℤ pos (2 ^ m)) z _ s (le_trans _ (n *ℤ pos (2 ^ k)) _ (greater_power n m k h least) (greater_number n x k i))
low_by_least n x z (Fin (negsuc m)) k h s i a = le_along n z _ s (le_trans n (n *ℤ pos (2 ^ k)) _ (from_zero_up n k h) (greater_number n x k i))
low_by_least n x z High k h s i a = absurd a

high_by_most : (n x z : ℤ) (hi : Ext) (k : ℕ) → pos 0 ≤ℤ n → IsShifted n hi z → x ≤ℤ n → Above hi (pos k) → (x *ℤ pos (2 ^ k)) ≤ℤ z
high_by_most n x z Low k h s i a = absurd a
high_by_most n x z (Fin (pos m)) k h s i a =
    let most : k ≤ m = omega (arith, ints) in
    le_upto (n *ℤ pos (2 ^ m)) z _ s (le_trans _ (n *ℤ pos (2 ^ k)) _ (greater_number x n k i) (greater_power n k m h most))
high_by_most n x z (Fin (negsuc m)) k h s i a = absurd (omega (arith, ints))
high_by_most n x z High k h s i a =
    let none : n *ℤ pos (2 ^ k) ≡ pos 0 = ap (λ (t : ℤ). t *ℤ pos (2 ^ k)) s.0 ∙ zero-*ℤ (pos (2 ^ k)) in
    let most = greater_number x n k i in
    let e = s.0 in
    let f = s.1 in
    omega (arith, ints)

high_by_least : (n x z : ℤ) (lo : Ext) (k : ℕ) → n <ℤ pos 0 → IsShifted n lo z → x ≤ℤ n → Below lo (pos k) → (x *ℤ pos (2 ^ k)) ≤ℤ z
high_by_least n x z Low k h s i a = le_upto n z _ s (le_trans _ (n *ℤ pos (2 ^ k)) n (greater_number x n k i) (from_zero_down n k h))
high_by_least n x z (Fin (pos m)) k h s i a =
    let least : m ≤ k = omega (arith, ints) in
    le_upto (n *ℤ pos (2 ^ m)) z _ s (le_trans _ (n *ℤ pos (2 ^ k)) _ (greater_number x n k i) (lesser_power n m k h least))
high_by_least n x z (Fin (negsuc m)) k h s i a = le_upto n z _ s (le_trans _ (n *ℤ pos (2 ^ k)) n (greater_number x n k i) (from_zero_down n k h))
high_by_least n x z High k h s i a = absurd a

-- ---- products that are no i128

past_above : (z : ℤ) → pos 0 ≤ℤ z → (FitsSigned w128 z → ⊥) → pos (2 ^ 127 - 1) ≤ℤ z
past_above z h none = by_lt_z (pos (2 ^ 127 - 1)) z (λ less. omega (arith, ints)) (λ most. absurd (none (omega (arith, ints))))

past_below : (z : ℤ) → z <ℤ pos 0 → (FitsSigned w128 z → ⊥) → z ≤ℤ negsuc (2 ^ 127 - 1)
past_below z h none = by_lt_z z (negsuc (2 ^ 127 - 1)) (λ less. omega (arith, ints)) (λ most. absurd (none (omega (arith, ints))))

low_past : (n x : ℤ) (lo : Ext) (k : ℕ) → pos 0 ≤ℤ n → IsShiftedAway n lo → n ≤ℤ x → Below lo (pos k) → pos (2 ^ 127 - 1) ≤ℤ (x *ℤ pos (2 ^ k))
low_past n x Low k h s i a = absurd s
low_past n x (Fin (pos m)) k h s i a =
    let least : m ≤ k = omega (arith, ints) in
    let natural = from_zero_up n m h in
    let past = past_above (n *ℤ pos (2 ^ m)) (omega (arith, ints)) s in
    le_trans _ (n *ℤ pos (2 ^ m)) _ past (le_trans _ (n *ℤ pos (2 ^ k)) _ (greater_power n m k h least) (greater_number n x k i))
low_past n x (Fin (negsuc m)) k h s i a = absurd s
low_past n x High k h s i a = absurd a

high_past : (n x : ℤ) (lo : Ext) (k : ℕ) → n <ℤ pos 0 → IsShiftedAway n lo → x ≤ℤ n → Below lo (pos k) → (x *ℤ pos (2 ^ k)) ≤ℤ negsuc (2 ^ 127 - 1)
high_past n x Low k h s i a = absurd s
high_past n x (Fin (pos m)) k h s i a =
    let least : m ≤ k = omega (arith, ints) in
    let negative = from_zero_down n m h in
    let past = past_below (n *ℤ pos (2 ^ m)) (omega (arith, ints)) s in
    le_trans _ (n *ℤ pos (2 ^ m)) _ (le_trans _ (n *ℤ pos (2 ^ k)) _ (greater_number x n k i) (lesser_power n m k h least)) past
high_past n x (Fin (negsuc m)) k h s i a = absurd s
high_past n x High k h s i a = absurd a

-- ---- an end by an end

pub low_minus : (n x : ℤ) (p : Option ℤ) (b : Interval) (k : ℕ) → n <ℤ pos 0 → IfSome p (IsShifted n (greatest_end b)) → n ≤ℤ x → Admits b (pos k) → Below (step_or Low p) (x *ℤ pos (2 ^ k))
low_minus n x None b k h s i a = tt
low_minus n x (Some z) b k h s i a = low_by_most n x z (greatest_end b) k h s i a.1

pub low_natural : (n x : ℤ) (p : Option ℤ) (b : Interval) (k : ℕ) → pos 0 ≤ℤ n → IfSome p (IsShifted n (least_end b)) → IfNone p (IsShiftedAway n (least_end b)) → n ≤ℤ x → Admits b (pos k) → Below (step_or (Fin (pos (2 ^ 127 - 1))) p) (x *ℤ pos (2 ^ k))
low_natural n x None b k h s t i a = low_past n x (least_end b) k h t i a.0
low_natural n x (Some z) b k h s t i a = low_by_least n x z (least_end b) k h s i a.0

pub high_natural : (n x : ℤ) (p : Option ℤ) (b : Interval) (k : ℕ) → pos 0 ≤ℤ n → IfSome p (IsShifted n (greatest_end b)) → x ≤ℤ n → Admits b (pos k) → Above (step_or High p) (x *ℤ pos (2 ^ k))
high_natural n x None b k h s i a = tt
high_natural n x (Some z) b k h s i a = high_by_most n x z (greatest_end b) k h s i a.1

pub high_minus : (n x : ℤ) (p : Option ℤ) (b : Interval) (k : ℕ) → n <ℤ pos 0 → IfSome p (IsShifted n (least_end b)) → IfNone p (IsShiftedAway n (least_end b)) → x ≤ℤ n → Admits b (pos k) → Above (step_or (Fin (negsuc (2 ^ 127 - 1))) p) (x *ℤ pos (2 ^ k))
high_minus n x None b k h s t i a = high_past n x (least_end b) k h t i a.0
high_minus n x (Some z) b k h s t i a = high_by_least n x z (least_end b) k h s i a.0

-- ---- each of them is one of the products

-- so many bits pass any number
past_low : (n l : ℤ) (j : ℕ) → n <ℤ pos 0 → l ≤ℤ (n *ℤ pos (2 ^ j)) → neg_ℤ l ≤ℤ pos j → ⊥
past_low n l j h i less =
    let first = greater_number n (negsuc 0) j (omega (arith, ints)) in
    let one : negsuc 0 *ℤ pos (2 ^ j) ≡ neg_ℤ (pos (2 ^ j)) = omega (arith, ints) in
    let most = below_power j in
    absurd (omega (arith, ints))

past_high : (n h : ℤ) (j : ℕ) → pos 0 <ℤ n → (n *ℤ pos (2 ^ j)) ≤ℤ h → h ≤ℤ pos j → ⊥
past_high n h j g i more =
    let first = greater_number (pos 1) n j (omega (arith, ints)) in
    let one : pos 1 *ℤ pos (2 ^ j) ≡ pos (2 ^ j) = omega (arith, ints) in
    let most = below_power j in
    absurd (omega (arith, ints))

-- some amount between two ends, and each product by an amount between them lies between l and h
record AreBetween (l h n : ℤ) (lo hi : Ext) : Type 0 where
  k : ℕ
  low : Below lo (pos k)
  high : Above hi (pos k)
  between : (j : ℕ) → Below lo (pos j) → Above hi (pos j) → IsBetween l h (n *ℤ pos (2 ^ j))

itself : (j : ℕ) → pos j ≤ℤ pos j
itself j = omega (arith, ints)

at_zero : (l h n : ℤ) (lo hi : Ext) → AreBetween l h n lo hi → Below lo (pos 0) → IsBetween l h n
at_zero l h n lo hi s low = subst (IsBetween l h) (times_one n) (s.between 0 low (above_down hi s.k 0 s.high (omega arith)))

most_between : (l h n z : ℤ) (lo hi : Ext) → AreBetween l h n lo hi → IsShifted n hi z → IsBetween l h z
most_between l h n z lo Low s t = absurd s.high
most_between l h n z lo (Fin (pos m)) s t =
    let high = s.high in
    subst (IsBetween l h) (sym t) (s.between m (below_up lo s.k m s.low (omega (arith, ints))) (itself m))
most_between l h n z lo (Fin (negsuc m)) s t = let high = s.high in absurd (omega (arith, ints))
most_between l h n z lo High s t =
    let none : n *ℤ pos (2 ^ s.k) ≡ pos 0 = ap (λ (x : ℤ). x *ℤ pos (2 ^ s.k)) t.0 ∙ zero-*ℤ (pos (2 ^ s.k)) in
    subst (IsBetween l h) (none ∙ sym t.0 ∙ sym t.1) (s.between s.k s.low s.high)

least_between : (l h n z : ℤ) (lo hi : Ext) → AreBetween l h n lo hi → IsShifted n lo z → IsBetween l h z
least_between l h n z Low hi s t = subst (IsBetween l h) (sym t) (at_zero l h n Low hi s tt)
least_between l h n z (Fin (pos m)) hi s t =
    let low = s.low in
    subst (IsBetween l h) (sym t) (s.between m (itself m) (above_down hi s.k m s.high (omega (arith, ints))))
least_between l h n z (Fin (negsuc m)) hi s t = subst (IsBetween l h) (sym t) (at_zero l h n (Fin (negsuc m)) hi s (omega (arith, ints)))
least_between l h n z High hi s t = absurd s.low

least_not_away : (l h n : ℤ) (lo hi : Ext) → FitsSigned w128 l → FitsSigned w128 h → AreBetween l h n lo hi → IsShiftedAway n lo → ⊥
least_not_away l h n Low hi f g s t = t
least_not_away l h n (Fin (pos m)) hi f g s t =
    let low = s.low in
    let b = s.between m (itself m) (above_down hi s.k m s.high (omega (arith, ints))) in
    t (fits_between l h _ f g b.0 b.1)
least_not_away l h n (Fin (negsuc m)) hi f g s t = t
least_not_away l h n High hi f g s t = s.low

-- an amount from k on that a number's size does not pass
size_of : ℤ → ℕ
size_of (pos a) = a
size_of (negsuc a) = suc a

size_low : (l : ℤ) (k : ℕ) → neg_ℤ l ≤ℤ pos (k + size_of l)
unfolding size_of
size_low (pos a) k = omega (arith, ints)
size_low (negsuc a) k = omega (arith, ints)

size_high : (h : ℤ) (k : ℕ) → h ≤ℤ pos (k + size_of h)
unfolding size_of
size_high (pos a) k = omega (arith, ints)
size_high (negsuc a) k = omega (arith, ints)

most_not_away : (l h n : ℤ) (lo hi : Ext) → FitsSigned w128 l → FitsSigned w128 h → AreBetween l h n lo hi → IsShiftedAway n hi → ⊥
most_not_away l h n lo Low f g s t = t
most_not_away l h n lo (Fin (pos m)) f g s t =
    let high = s.high in
    let b = s.between m (below_up lo s.k m s.low (omega (arith, ints))) (itself m) in
    t (fits_between l h _ f g b.0 b.1)
most_not_away l h n lo (Fin (negsuc m)) f g s t = t
most_not_away l h n lo High f g s t =
    by_lt_z n (pos 0)
    (λ below. let j = s.k + size_of l in past_low n l j below (s.between j (below_up lo s.k j s.low (omega arith)) tt).0 (size_low l s.k))
    (λ natural. by_lt_z (pos 0) n
    (λ above. let j = s.k + size_of h in past_high n h j above (s.between j (below_up lo s.k j s.low (omega arith)) tt).1 (size_high h s.k))
    (λ most. t (omega (arith, ints))))

are_between : (l h n : ℤ) (b : Interval) → AreProductsBetween l h n b → AreBetween l h n (least_end b) (greatest_end b)
are_between l h n b s = record { k = s.some.0; low = s.some.1.0; high = s.some.1.1; between = λ j p q. s.between j (p, q) }

pub most_product : (past : Ext) (l h n : ℤ) (p : Option ℤ) (b : Interval) → FitsSigned w128 l → FitsSigned w128 h → AreProductsBetween l h n b → IfSome p (IsShifted n (greatest_end b)) → IfNone p (IsShiftedAway n (greatest_end b)) → AtMost (Fin l) (step_or past p) × AtMost (step_or past p) (Fin h)
most_product past l h n None b f g s some none = absurd (most_not_away l h n (least_end b) (greatest_end b) f g (are_between l h n b s) none)
most_product past l h n (Some z) b f g s some none = most_between l h n z (least_end b) (greatest_end b) (are_between l h n b s) some

pub least_product : (past : Ext) (l h n : ℤ) (p : Option ℤ) (b : Interval) → FitsSigned w128 l → FitsSigned w128 h → AreProductsBetween l h n b → IfSome p (IsShifted n (least_end b)) → IfNone p (IsShiftedAway n (least_end b)) → AtMost (Fin l) (step_or past p) × AtMost (step_or past p) (Fin h)
least_product past l h n None b f g s some none = absurd (least_not_away l h n (least_end b) (greatest_end b) f g (are_between l h n b s) none)
least_product past l h n (Some z) b f g s some none = least_between l h n z (least_end b) (greatest_end b) (are_between l h n b s) some

-- ---- the shift of two intervals

pub some_product : (a b : Interval) (l h n : ℤ) (k : ℕ) → Admits a n → Admits b (pos k) → IsBelowValues Shl a b l → IsAboveValues Shl a b h → AreProductsBetween l h n b
some_product a b l h n k at_n at_k below above = record {
  some = (k, at_k);
  between = λ j at_j. (below n (pos j) (n *ℤ pos (2 ^ j)) at_n at_j refl, above n (pos j) (n *ℤ pos (2 ^ j)) at_n at_j refl);
}

-- two points, and their value
pub shl_point : (a b r : Interval) (x y n : ℤ) → Admits a x → Admits b y → binary_value Shl x y ≡ Some n → IsPoint r n → ShlBounds a b r
shl_point a b r x y n p q e at_r = record {
  least = λ l h k f g finite at_k below above. (
    subst (AtMost (Fin l)) (sym at_r.0) (below x y n p q e),
    subst (λ (t : Ext). AtMost t (Fin h)) (sym at_r.1) (above x y n p q e),
  );
}

pub shr_point : (a b r : Interval) (x y n : ℤ) → Admits a x → Admits b y → binary_value Shr x y ≡ Some n → IsPoint r n → ShrBounds a b r
shr_point a b r x y n p q e at_r = record {
  low = λ s l k is at_k below. subst (AtMost (Fin l)) (sym at_r.0) (below x y n p q e);
  high = λ s h k is at_k above. subst (λ (t : Ext). AtMost t (Fin h)) (sym at_r.1) (above x y n p q e);
}
