-- Shifts of i128 numbers are those of whole numbers.
use Rattle.std.proofs.Common.{◌≡◌, ℕ, ℤ, pos, negsuc, zero, suc, ◌-◌, ◌*◌, ◌/◌, ◌%◌, ◌^◌, ◌<◌, ◌≤◌, ◌*ℤ◌, neg_ℤ, ◌≤ℤ◌, ⊎_elim, Option, Some, None, IfSome, IfNone, arith, refl, sym, ◌∙◌, ap, subst, to_z, FitsSigned}
use Rattle.std.specs.Int.{int_min}
use Rattle.std.specs.Option.{SomeIff}
use Rattle.std.specs.Int.Signed.{shr_z}
use Rattle.std.proofs.Math.IntN.{nat_abs, negsuc-*ℤ-pos, zero-*ℤ}
use Rattle.std.proofs.Math.Nat.{div-eq_of_lt, pow-le-pow_right, mul-le-mul_left, mod-eq_of_lt, one-mul}
use Rattle.std.proofs.lemmas.Nat.{pow-add}
use Rattle.std.proofs.lemmas.Bool.{cases_lt}
use Rattle.std.proofs.lemmas.Int.{ints, to_z_pos}
use mir.Syntax.{w128}
use Rattle.num_api.specs.Value.{shifted_left, shifted_right}

-- ---- to the right

-- by 2^127 and more a number of 127 bits gives 0
none_left : (a k : ℕ) → a < 2 ^ 127 → 127 ≤ k → a / 2 ^ k ≡ 0
none_left a k h j = let most : 2 ^ 127 ≤ 2 ^ k = pow-le-pow_right (omega arith) j in div-eq_of_lt (omega arith)

capped : (a k j : ℕ) → a < 2 ^ 127 → (k < 127 → j ≡ k) → (127 ≤ k → j ≡ 127) → a / 2 ^ k ≡ a / 2 ^ j
capped a k j h below over = ⊎_elim
    (λ (i : k < 127). ap (λ m. a / 2 ^ m) (sym (below i)))
    (λ (i : 127 ≤ k). let most : j ≡ 127 = over i in none_left a k h i ∙ sym (none_left a j h (omega arith)))
    (cases_lt k 127)

min_below : (k : ℕ) (m : ℤ) → m ≡ int_min (pos k) (pos 127) → k < 127 → m ≡ pos k
min_below k m e h = grind (arith, ints)

min_over : (k : ℕ) (m : ℤ) → m ≡ int_min (pos k) (pos 127) → 127 ≤ k → m ≡ pos 127
min_over k m e h = grind (arith, ints)

capped_by : (a k : ℕ) (m : ℤ) → a < 2 ^ 127 → m ≡ int_min (pos k) (pos 127) → a / 2 ^ k ≡ a / 2 ^ nat_abs m
capped_by a k m h e = capped a k (nat_abs m) h (λ i. ap nat_abs (min_below k m e i)) (λ i. ap nat_abs (min_over k m e i))

pub shifted_right-is : (x amount m z : ℤ) → FitsSigned w128 x → pos 0 ≤ℤ amount → m ≡ int_min amount (pos 127) → z ≡ shr_z x (2 ^ nat_abs m) → shifted_right x amount ≡ Some z
shifted_right-is (pos a) (pos k) m z f h e is = ap Some (ap pos (capped_by a k m f.sfits e) ∙ sym is)
shifted_right-is (negsuc a) (pos k) m z f h e is = ap Some (ap negsuc (capped_by a k m f.sfits e) ∙ sym is)
shifted_right-is x (negsuc k) m z f h e is = absurd (omega (arith, ints))

-- ---- to the left, in two steps

neg_times : (m b : ℕ) → neg_ℤ (pos m) *ℤ pos b ≡ neg_ℤ (pos (m * b))
neg_times zero b = let none : 0 * b ≡ 0 = omega arith in ap pos none ∙ ap (λ m. neg_ℤ (pos m)) (sym none)
neg_times (suc m) b = negsuc-*ℤ-pos m b

times_twice : (x : ℤ) (a b : ℕ) → (x *ℤ pos a) *ℤ pos b ≡ x *ℤ pos (a * b)
times_twice (pos c) a b = ap pos (omega arith)
times_twice (negsuc c) a b =
    ap (λ z. z *ℤ pos b) (negsuc-*ℤ-pos c a) ∙ neg_times (suc c * a) b ∙ ap (λ m. neg_ℤ (pos m)) (omega arith) ∙ sym (negsuc-*ℤ-pos c (a * b))

pub power_is : (j : ℕ) → j ≤ 64 → to_z w128 (1 * 2 ^ j % 2 ^ 128) ≡ pos (2 ^ j)
power_is j h =
    let most : 2 ^ j ≤ 2 ^ 64 = pow-le-pow_right (omega arith) h in
    ap (to_z w128) (mod-eq_of_lt (omega arith) ∙ one-mul (2 ^ j)) ∙ to_z_pos w128 (2 ^ j) (omega arith)

power_twice : (k h : ℕ) → h ≤ k → 2 ^ h * 2 ^ (k - h) ≡ 2 ^ k
power_twice k h i = sym (pow-add 2 h (k - h)) ∙ ap (λ m. 2 ^ m) (omega arith)

-- the second step, where the first has a product
pub second_step : (x p q partial : ℤ) (k h : ℕ) (r : Option ℤ) → h ≤ k → p ≡ pos (2 ^ h) → q ≡ pos (2 ^ (k - h)) → partial ≡ x *ℤ p → SomeIff r (FitsSigned w128 (partial *ℤ q)) (partial *ℤ q) → SomeIff r (FitsSigned w128 (x *ℤ pos (2 ^ k))) (x *ℤ pos (2 ^ k))
second_step x p q partial k h r i e f is answer =
    let same : partial *ℤ q ≡ x *ℤ pos (2 ^ k) =
    ap (λ m. m *ℤ q) is ∙ ap (λ m. (x *ℤ m) *ℤ q) e ∙ ap (λ m. (x *ℤ pos (2 ^ h)) *ℤ m) f ∙ times_twice x (2 ^ h) (2 ^ (k - h)) ∙ ap (λ m. x *ℤ pos m) (power_twice k h i) in
    subst (λ (z : ℤ). SomeIff r (FitsSigned w128 z) z) same answer

-- a product by less fits where that by more does
less_fits : (x : ℤ) (a b : ℕ) → a ≤ b → FitsSigned w128 (x *ℤ pos b) → FitsSigned w128 (x *ℤ pos a)
less_fits (pos c) a b h f = let less : c * a ≤ c * b = mul-le-mul_left c h in omega (arith, ints)
less_fits (negsuc c) a b h f = let less : suc c * a ≤ suc c * b = mul-le-mul_left (suc c) h in omega (arith, ints)

pub no_first_step : (x p : ℤ) (k h : ℕ) → h ≤ k → p ≡ pos (2 ^ h) → (FitsSigned w128 (x *ℤ p) → ⊥) → FitsSigned w128 (x *ℤ pos (2 ^ k)) → ⊥
no_first_step x p k h i e none f =
    none (subst (λ (m : ℤ). FitsSigned w128 (x *ℤ m)) (sym e) (less_fits x (2 ^ h) (2 ^ k) (pow-le-pow_right (omega arith) i) f))

-- ---- by 2^128 and more only 0 has a product

min_to : (k : ℕ) (m : ℤ) → m ≡ int_min (pos k) (pos 128) → k < 128 → m ≡ pos k
min_to k m e h = grind (arith, ints)

min_past : (k : ℕ) (m : ℤ) → m ≡ int_min (pos k) (pos 128) → 128 ≤ k → m ≡ pos 128
min_past k m e h = grind (arith, ints)

-- a product by 2^128 that is an i128 is 0, as the number is then
zero_past : (x : ℤ) (k : ℕ) → 128 ≤ k → FitsSigned w128 (x *ℤ pos (2 ^ k)) → x ≡ pos 0
zero_past (pos zero) k h f = refl
zero_past (pos (suc c)) k h f =
    let most : 2 ^ 128 ≤ 2 ^ k = pow-le-pow_right (omega arith) h in
    let more : 2 ^ k ≤ suc c * 2 ^ k = omega arith in
    absurd (omega (arith, ints))
zero_past (negsuc c) k h f =
    let most : 2 ^ 128 ≤ 2 ^ k = pow-le-pow_right (omega arith) h in
    let more : 2 ^ k ≤ suc c * 2 ^ k = omega arith in
    absurd (omega (arith, ints))

-- the power that is taken, for an amount of `k`
pub record IsPowerFor (k j : ℕ) : Type 0 where
  pub to : k < 128 → j ≡ k
  pub past : 128 ≤ k → j ≡ 128

pub power_for : (k : ℕ) (m : ℤ) → m ≡ int_min (pos k) (pos 128) → IsPowerFor k (nat_abs m)
power_for k m e = record { to = λ h. ap nat_abs (min_to k m e h); past = λ h. ap nat_abs (min_past k m e h) }

same_product : (x : ℤ) (k j : ℕ) → IsPowerFor k j → FitsSigned w128 (x *ℤ pos (2 ^ j)) → x *ℤ pos (2 ^ j) ≡ x *ℤ pos (2 ^ k)
same_product x k j power f = ⊎_elim
    (λ (h : k < 128). ap (λ m. x *ℤ pos (2 ^ m)) (power.to h))
    (λ (h : 128 ≤ k). let zeros : x ≡ pos 0 = zero_past x j (omega (arith, power.past h)) f in rw zeros (zero-*ℤ (pos (2 ^ j)) ∙ sym (zero-*ℤ (pos (2 ^ k)))))
    (cases_lt k 128)

fits_too : (x : ℤ) (k j : ℕ) → IsPowerFor k j → FitsSigned w128 (x *ℤ pos (2 ^ k)) → FitsSigned w128 (x *ℤ pos (2 ^ j))
fits_too x k j power f = ⊎_elim
    (λ (h : k < 128). rw (power.to h) f)
    (λ (h : 128 ≤ k). let zeros : x ≡ pos 0 = zero_past x k h f in rw zeros (fits_zero (2 ^ j)))
    (cases_lt k 128)
  where
    fits_zero : (m : ℕ) → FitsSigned w128 (pos 0 *ℤ pos m)
    fits_zero m = omega (arith, ints)

pub shifted_left-some : (x amount : ℤ) (m : ℤ) (r : Option ℤ) → pos 0 ≤ℤ amount → m ≡ int_min amount (pos 128) → SomeIff r (FitsSigned w128 (x *ℤ pos (2 ^ nat_abs m))) (x *ℤ pos (2 ^ nat_abs m)) → IfSome r (λ n. shifted_left x amount ≡ Some n)
shifted_left-some x (pos k) m None h e answer = tt
shifted_left-some x (pos k) m (Some n) h e answer = ap Some (sym (same_product x k (nat_abs m) (power_for k m e) answer.0) ∙ sym answer.1)
shifted_left-some x (negsuc k) m r h e answer = absurd (omega (arith, ints))

some-inj : (a b : ℤ) → Some a ≡ Some b → a ≡ b
some-inj a b e = cc

pub shifted_left-none : (x amount : ℤ) (m : ℤ) (r : Option ℤ) → pos 0 ≤ℤ amount → m ≡ int_min amount (pos 128) → SomeIff r (FitsSigned w128 (x *ℤ pos (2 ^ nat_abs m))) (x *ℤ pos (2 ^ nat_abs m)) → IfNone r ((n : ℤ) → shifted_left x amount ≡ Some n → FitsSigned w128 n → ⊥)
shifted_left-none x (pos k) m None h e answer = λ n is f.
    answer (fits_too x k (nat_abs m) (power_for k m e) (rw (some-inj _ _ is) f))
shifted_left-none x (pos k) m (Some n) h e answer = tt
shifted_left-none x (negsuc k) m r h e answer = absurd (omega (arith, ints))
