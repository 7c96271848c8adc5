-- Bounds of shifts.
use Rattle.std.proofs.Common.{◌≡◌, ℕ, ℤ, pos, negsuc, zero, suc, ◌+◌, ◌/◌, ◌*◌, ◌^◌, ◌<◌, ◌≤◌, ◌≤ℤ◌, ◌⊎◌, ⊎_elim, arith, refl, sym, ◌∙◌, ap, subst, to_z, of_z, FitsSigned, true, false}
use Rattle.std.specs.Int.{int_div_euclid, int_min}
use Rattle.std.specs.Int.Signed.{shr_z, lt_z}
use Rattle.std.proofs.Math.Nat.{pow-le-pow_right, div-eq_of_lt, mul-div-le}
use Rattle.std.proofs.Math.Pow.{shr_mono}
use Rattle.std.proofs.lemmas.Nat.{le-div, pow_pos}
use Rattle.std.proofs.lemmas.Int.{ints, to_z-of_z}
use mir.Syntax.{w128}
use Rattle.ext_int.specs.declared.Ext.{Ext}
use Rattle.ext_int.specs.declared.Ext.TheVariants.{Low, Fin, High}
use Rattle.ext_int.specs.Ext.{Below, Above}
use Rattle.intervals.specs.declared.Interval.{Interval}
use Rattle.intervals.specs.Interval.{Admits, least_end, greatest_end}
use Rattle.intervals.specs.Shifts.{IsAmount, AreQuotientsFrom, AreQuotientsUpTo}
use Rattle.intervals.proofs.BitRanges.{above_down, below_up}
use Rattle.intervals.proofs.Shifts.{shifted_right-is}

-- ---- quotients by powers of two

-- by more the quotient is less
less_by_more : (a j k : ℕ) → j ≤ k → a / 2 ^ k ≤ a / 2 ^ j
less_by_more a j k h =
    let most : 2 ^ j ≤ 2 ^ k = pow-le-pow_right (omega arith) h in
    let back : 2 ^ k * (a / 2 ^ k) ≤ a = mul-div-le a (2 ^ k) in
    let some = times-mono (2 ^ j) (2 ^ k) (a / 2 ^ k) most in
    le-div (a / 2 ^ k) a (2 ^ j) (pow_pos j) (omega arith)
  where
    times-mono : (p q d : ℕ) → p ≤ q → d * p ≤ q * d
    times-mono p q zero h = omega arith
    times-mono p q (suc d) h = let i = times-mono p q d h in omega arith

-- a less number by more
quotients : (a b j k : ℕ) → a ≤ b → j ≤ k → a / 2 ^ k ≤ b / 2 ^ j
quotients a b j k h i = let p = shr_mono k h in let q = less_by_more b j k i in omega arith

-- by the greatest amount that counts, where the number has at most 127 bits
quotients_last : (a b j k : ℕ) → a ≤ b → a < 2 ^ 127 → (k ≤ j) ⊎ (j ≡ 127) → a / 2 ^ j ≤ b / 2 ^ k
quotients_last a b j k h small = ⊎_elim
    (λ (i : k ≤ j). quotients a b k j h i)
    (λ (i : j ≡ 127). let none : a / 2 ^ j ≡ 0 = rw i (div-eq_of_lt small) in omega arith)

-- a lower end: what its quotient is, by the sign
pub low_below_zero : (e : Ext) (n r x : ℤ) (j k : ℕ) → e ≡ Fin n → FitsSigned w128 n → FitsSigned w128 r → lt_z (to_z w128 (of_z w128 n)) (pos 0) ≡ true → r ≡ shr_z (to_z w128 (of_z w128 n)) (2 ^ j) → j ≤ k → Below e x → to_z w128 (of_z w128 r) ≤ℤ int_div_euclid x (pos (2 ^ k))
low_below_zero e n r x j k is f h negative quotient less below =
    let n_is = to_z-of_z w128 n f in
    subst (λ (z : ℤ). z ≤ℤ int_div_euclid x (pos (2 ^ k))) (sym (to_z-of_z w128 r h ∙ quotient ∙ ap (λ (z : ℤ). shr_z z (2 ^ j)) n_is))
    (at n x (subst (λ (z : ℤ). lt_z z (pos 0) ≡ true) n_is negative) (subst (λ (t : Ext). Below t x) is below))
  where
    at : (n x : ℤ) → lt_z n (pos 0) ≡ true → n ≤ℤ x → shr_z n (2 ^ j) ≤ℤ int_div_euclid x (pos (2 ^ k))
    at (pos a) x s l = absurd (omega (arith, ints))
    at (negsuc a) (pos b) s l = omega (arith, ints)
    at (negsuc a) (negsuc b) s l = let m = quotients b a j k (omega (arith, ints)) less in omega (arith, ints)

pub low_above_zero : (e : Ext) (n r x : ℤ) (j k : ℕ) → e ≡ Fin n → FitsSigned w128 n → FitsSigned w128 r → lt_z (to_z w128 (of_z w128 n)) (pos 0) ≡ false → r ≡ shr_z (to_z w128 (of_z w128 n)) (2 ^ j) → (k ≤ j) ⊎ (j ≡ 127) → Below e x → to_z w128 (of_z w128 r) ≤ℤ int_div_euclid x (pos (2 ^ k))
low_above_zero e n r x j k is f h positive quotient more below =
    let n_is = to_z-of_z w128 n f in
    subst (λ (z : ℤ). z ≤ℤ int_div_euclid x (pos (2 ^ k))) (sym (to_z-of_z w128 r h ∙ quotient ∙ ap (λ (z : ℤ). shr_z z (2 ^ j)) n_is))
    (at n x f (subst (λ (z : ℤ). lt_z z (pos 0) ≡ false) n_is positive) (subst (λ (t : Ext). Below t x) is below))
  where
    at : (n x : ℤ) → FitsSigned w128 n → lt_z n (pos 0) ≡ false → n ≤ℤ x → shr_z n (2 ^ j) ≤ℤ int_div_euclid x (pos (2 ^ k))
    at (negsuc a) x g s l = absurd (omega (arith, ints))
    at (pos a) (negsuc b) g s l = absurd (omega (arith, ints))
    at (pos a) (pos b) g s l = let m = quotients_last a b j k (omega (arith, ints)) g.sfits more in omega (arith, ints)

-- an upper end
pub high_below_zero : (e : Ext) (n r x : ℤ) (j k : ℕ) → e ≡ Fin n → FitsSigned w128 n → FitsSigned w128 r → lt_z (to_z w128 (of_z w128 n)) (pos 0) ≡ true → r ≡ shr_z (to_z w128 (of_z w128 n)) (2 ^ j) → (k ≤ j) ⊎ (j ≡ 127) → Above e x → int_div_euclid x (pos (2 ^ k)) ≤ℤ to_z w128 (of_z w128 r)
high_below_zero e n r x j k is f h negative quotient more above =
    let n_is = to_z-of_z w128 n f in
    subst (λ (z : ℤ). int_div_euclid x (pos (2 ^ k)) ≤ℤ z) (sym (to_z-of_z w128 r h ∙ quotient ∙ ap (λ (z : ℤ). shr_z z (2 ^ j)) n_is))
    (at n x f (subst (λ (z : ℤ). lt_z z (pos 0) ≡ true) n_is negative) (subst (λ (t : Ext). Above t x) is above))
  where
    at : (n x : ℤ) → FitsSigned w128 n → lt_z n (pos 0) ≡ true → x ≤ℤ n → int_div_euclid x (pos (2 ^ k)) ≤ℤ shr_z n (2 ^ j)
    at (pos a) x g s l = absurd (omega (arith, ints))
    at (negsuc a) (pos b) g s l = absurd (omega (arith, ints))
    at (negsuc a) (negsuc b) g s l = let m = quotients_last a b j k (omega (arith, ints)) g.sfits more in omega (arith, ints)

pub high_above_zero : (e : Ext) (n r x : ℤ) (j k : ℕ) → e ≡ Fin n → FitsSigned w128 n → FitsSigned w128 r → lt_z (to_z w128 (of_z w128 n)) (pos 0) ≡ false → r ≡ shr_z (to_z w128 (of_z w128 n)) (2 ^ j) → j ≤ k → Above e x → int_div_euclid x (pos (2 ^ k)) ≤ℤ to_z w128 (of_z w128 r)
high_above_zero e n r x j k is f h positive quotient less above =
    let n_is = to_z-of_z w128 n f in
    subst (λ (z : ℤ). int_div_euclid x (pos (2 ^ k)) ≤ℤ z) (sym (to_z-of_z w128 r h ∙ quotient ∙ ap (λ (z : ℤ). shr_z z (2 ^ j)) n_is))
    (at n x (subst (λ (z : ℤ). lt_z z (pos 0) ≡ false) n_is positive) (subst (λ (t : Ext). Above t x) is above))
  where
    at : (n x : ℤ) → lt_z n (pos 0) ≡ false → x ≤ℤ n → int_div_euclid x (pos (2 ^ k)) ≤ℤ shr_z n (2 ^ j)
    at (negsuc a) x s l = absurd (omega (arith, ints))
    at (pos a) (negsuc b) s l = omega (arith, ints)
    at (pos a) (pos b) s l = let m = quotients b a j k (omega (arith, ints)) less in omega (arith, ints)

-- the same end is one number
pub same_sign : (e : Ext) (n m : ℤ) → e ≡ Fin n → e ≡ Fin m → lt_z (to_z w128 (of_z w128 n)) (pos 0) ≡ false → lt_z (to_z w128 (of_z w128 m)) (pos 0) ≡ false
same_sign e n m p q h = let same : n ≡ m = one (sym p ∙ q) in subst (λ (z : ℤ). lt_z (to_z w128 (of_z w128 z)) (pos 0) ≡ false) same h
  where
    one : {a b : ℤ} → Fin a ≡ Fin b → a ≡ b
    one e = cc

-- ---- the quotient by an end's amount is one of the quotients

itself : (j : ℕ) → pos j ≤ℤ pos j
itself j = omega (arith, ints)

quotient_by_amount : (n : ℤ) (j r : ℕ) → FitsSigned w128 n → pos r ≡ int_min (pos j) (pos 127) → shr_z n (2 ^ r) ≡ int_div_euclid n (pos (2 ^ j))
quotient_by_amount n j r f e = let same = shifted_right-is n (pos j) (pos r) (shr_z n (2 ^ r)) f (omega (arith, ints)) e refl in cc

no_amount : pos 0 ≡ int_min (pos 0) (pos 127)
no_amount = refl

last_amount : (k : ℕ) → pos 127 ≡ int_min (pos (k + 127)) (pos 127)
last_amount k = grind (arith, ints)

-- some amount of those between two ends leaves this quotient
abbrev IsLeftBy : ℤ → Ext → Ext → ℕ → Type 0
IsLeftBy n lo hi r = (j : ℕ) × Below lo (pos j) × Above hi (pos j) × (shr_z n (2 ^ r) ≡ int_div_euclid n (pos (2 ^ j)))

by_none : (n : ℤ) (lo hi : Ext) (k r : ℕ) → FitsSigned w128 n → Above hi (pos k) → Below lo (pos 0) → r ≡ 0 → IsLeftBy n lo hi r
by_none n lo hi k r f high low e = (0, low, above_down hi k 0 high (omega arith), quotient_by_amount n 0 r f (ap pos e ∙ no_amount))

left_by_least : (n : ℤ) (lo hi : Ext) (k r : ℕ) → FitsSigned w128 n → Below lo (pos k) → Above hi (pos k) → IsAmount lo r → IsLeftBy n lo hi r
left_by_least n Low hi k r f low high e = by_none n Low hi k r f high tt e
left_by_least n (Fin (pos m)) hi k r f low high e = (m, itself m, above_down hi k m high (omega (arith, ints)), quotient_by_amount n m r f e)
left_by_least n (Fin (negsuc m)) hi k r f low high e = by_none n (Fin (negsuc m)) hi k r f high (omega (arith, ints)) e
left_by_least n High hi k r f low high e = absurd low

left_by_most : (n : ℤ) (lo hi : Ext) (k r : ℕ) → FitsSigned w128 n → Below lo (pos k) → Above hi (pos k) → IsAmount hi r → IsLeftBy n lo hi r
left_by_most n lo Low k r f low high e = absurd high
left_by_most n lo (Fin (pos m)) k r f low high e = (m, below_up lo k m low (omega (arith, ints)), itself m, quotient_by_amount n m r f e)
left_by_most n lo (Fin (negsuc m)) k r f low high e = absurd (omega (arith, ints))
left_by_most n lo High k r f low high e = (k + 127, below_up lo k (k + 127) low (omega arith), tt, quotient_by_amount n (k + 127) r f (ap pos e ∙ last_amount k))

-- the quotient that is read back
abbrev pub IsOfAmounts : ℤ → ℤ → Interval → Type 0
IsOfAmounts p r b = (j : ℕ) × Admits b (pos j) × (to_z w128 (of_z w128 r) ≡ int_div_euclid p (pos (2 ^ j)))

module _ (e : Ext) (n p r : ℤ) (i k : ℕ) (b : Interval) (is : e ≡ Fin n) (at : e ≡ Fin p) (f : FitsSigned w128 n) (g : FitsSigned w128 r) (quotient : r ≡ shr_z (to_z w128 (of_z w128 n)) (2 ^ i)) (at_k : Admits b (pos k)) where
  read_back : (lo hi : Ext) → IsLeftBy n lo hi i → (j : ℕ) × Below lo (pos j) × Above hi (pos j) × (to_z w128 (of_z w128 r) ≡ int_div_euclid p (pos (2 ^ j)))
  read_back lo hi (j, low, high, left) =
      let same : n ≡ p = one (sym is ∙ at) in
      (j, low, high, to_z-of_z w128 r g ∙ quotient ∙ ap (λ (z : ℤ). shr_z z (2 ^ i)) (to_z-of_z w128 n f) ∙ left ∙ ap (λ (z : ℤ). int_div_euclid z (pos (2 ^ j))) same)
    where
      one : {a b : ℤ} → Fin a ≡ Fin b → a ≡ b
      one e = cc

  pub by_least_amount : IsAmount (least_end b) i → IsOfAmounts p r b
  by_least_amount amount =
      let found = read_back (least_end b) (greatest_end b) (left_by_least n (least_end b) (greatest_end b) k i f at_k.0 at_k.1 amount) in
      (found.0, (found.1, found.2), found.3)

  pub by_most_amount : IsAmount (greatest_end b) i → IsOfAmounts p r b
  by_most_amount amount =
      let found = read_back (least_end b) (greatest_end b) (left_by_most n (least_end b) (greatest_end b) k i f at_k.0 at_k.1 amount) in
      (found.0, (found.1, found.2), found.3)

pub from_below : (p r l : ℤ) (b : Interval) → IsOfAmounts p r b → AreQuotientsFrom l p b → l ≤ℤ to_z w128 (of_z w128 r)
from_below p r l b (j, at, is) all = subst (λ (z : ℤ). l ≤ℤ z) (sym is) (all j at)

pub from_above : (p r h : ℤ) (b : Interval) → IsOfAmounts p r b → AreQuotientsUpTo h p b → to_z w128 (of_z w128 r) ≤ℤ h
from_above p r h b (j, at, is) all = subst (λ (z : ℤ). z ≤ℤ h) (sym is) (all j at)
