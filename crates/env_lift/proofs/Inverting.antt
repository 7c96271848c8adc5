-- Operators turned round.
use Rattle.std.proofs.Common.{◌⊎◌, inl, inr, ◌≤ℤ◌, arith, ℕ, zero, suc, ℤ, pos, negsuc, ◌≡◌, ◌/◌, ◌*◌, ◌+ℤ◌, ◌-ℤ◌, ◌*ℤ◌, neg_ℤ, Some, Bool, true, false, refl, sym, subst, ap, ◌∙◌, None}
use Rattle.std.specs.Prelude.{IsTrue, int_div, not}
use Rattle.std.specs.Ordering.{int_eq}
use Rattle.std.proofs.Math.Nat.{mul-div_cancel}
use Rattle.std.proofs.Math.IntN.{neg_ℤ-neg_ℤ}
use Rattle.std.proofs.lemmas.Int.{ints}
use Rattle.std.proofs.lemmas.Bool.{cond-false}
use Rattle.std.proofs.lemmas.Bool.Decides.{Decides-int_eq}
use Rattle.num_api.specs.declared.expr.NOp.{NOp}
use Rattle.num_api.specs.declared.expr.NOp.TheVariants.{Quot, Neg}
use Rattle.num_api.specs.Value.{unary_value, binary_value, has_truth}

-- ---- quotients of products

scaled : (a m : ℕ) → int_div (pos (a * suc m)) (pos (suc m)) ≡ pos a
scaled a m = ap pos (mul-div_cancel a {n = suc m} (omega arith))

neg_divided : (k m : ℕ) → int_div (neg_ℤ (pos k)) (pos (suc m)) ≡ neg_ℤ (int_div (pos k) (pos (suc m)))
neg_divided zero m = ap pos (zero_div m) ∙ sym (ap (λ (n : ℕ). neg_ℤ (pos n)) (zero_div m))
  where
    zero_div : (n : ℕ) → zero / suc n ≡ zero
    zero_div n = omega arith
neg_divided (suc k) m = refl

by_negative : (n : ℤ) (m : ℕ) → int_div n (negsuc m) ≡ neg_ℤ (int_div n (pos (suc m)))
by_negative (pos a) m = refl
by_negative (negsuc a) m = sym (neg_ℤ-neg_ℤ (pos (suc a / suc m)))

by_positive : (x : ℤ) (m : ℕ) → int_div (x *ℤ pos (suc m)) (pos (suc m)) ≡ x
by_positive (pos a) m = scaled a m
by_positive (negsuc a) m = neg_divided (suc a * suc m) m ∙ ap neg_ℤ (scaled (suc a) m)

turned_sign : (x : ℤ) (m : ℕ) → x *ℤ negsuc m ≡ neg_ℤ (x *ℤ pos (suc m))
turned_sign (pos a) m = refl
turned_sign (negsuc a) m = sym (neg_ℤ-neg_ℤ (pos (suc a * suc m)))

neg_product : (n : ℤ) (m : ℕ) → int_div (neg_ℤ n) (pos (suc m)) ≡ neg_ℤ (int_div n (pos (suc m)))
neg_product (pos k) m = neg_divided k m
neg_product (negsuc k) m = sym (neg_ℤ-neg_ℤ (pos (suc k / suc m)))

pub product_divided : (x y : ℤ) → (y ≡ pos 0 → ⊥) → int_div (x *ℤ y) y ≡ x
product_divided x (pos zero) ne = absurd (ne refl)
product_divided x (pos (suc m)) ne = by_positive x m
product_divided x (negsuc m) ne =
    ap (λ (n : ℤ). int_div n (negsuc m)) (turned_sign x m) ∙ by_negative (neg_ℤ (x *ℤ pos (suc m))) m
    ∙ ap neg_ℤ (neg_product (x *ℤ pos (suc m)) m) ∙ neg_ℤ-neg_ℤ (int_div (x *ℤ pos (suc m)) (pos (suc m))) ∙ by_positive x m

pub quotient_is : (x y : ℤ) → (y ≡ pos 0 → ⊥) → binary_value Quot (x *ℤ y) y ≡ Some x
quotient_is x y ne =
    cond-false (int_eq y (pos 0)) None (Some (int_div (x *ℤ y) y)) (apart (int_eq y (pos 0)) (λ e. ne ((Decides-int_eq y (pos 0)).0 e)))
    ∙ ap (λ (n : ℤ). Some n) (product_divided x y ne)
  where
    apart : (b : Bool) → (b ≡ true → ⊥) → b ≡ false
    apart true h = absurd (h refl)
    apart false h = refl

-- ---- truths

pub not_zero : (n : ℤ) → (IsTrue (has_truth false n) → ⊥) → n ≡ pos 0 → ⊥
not_zero n h e = h ((Decides-int_eq n (pos 0)).1 e)

pub other_truth : (n : ℤ) (truth : Bool) → (IsTrue (has_truth (not truth) n) → ⊥) → IsTrue (has_truth truth n)
other_truth n true h = of (int_eq n (pos 0)) h
  where
    of : (b : Bool) → (b ≡ true → ⊥) → not b ≡ true
    of true k = absurd (k refl)
    of false k = refl
other_truth n false h = of (int_eq n (pos 0)) h
  where
    of : (b : Bool) → (not b ≡ true → ⊥) → b ≡ true
    of true k = refl
    of false k = absurd (k refl)

-- ---- sums, differences and negations

pub sum_first : (x y : ℤ) → Some ((x +ℤ y) -ℤ y) ≡ Some x
sum_first x y = ap (λ (n : ℤ). Some n) (omega (arith, ints))

pub sum_second : (x y : ℤ) → Some ((x +ℤ y) -ℤ x) ≡ Some y
sum_second x y = ap (λ (n : ℤ). Some n) (omega (arith, ints))

pub difference_first : (x y : ℤ) → Some ((x -ℤ y) +ℤ y) ≡ Some x
difference_first x y = ap (λ (n : ℤ). Some n) (omega (arith, ints))

pub difference_second : (x y : ℤ) → Some (x -ℤ (x -ℤ y)) ≡ Some y
difference_second x y = ap (λ (n : ℤ). Some n) (omega (arith, ints))

pub negated_back : (op : NOp) (x n : ℤ) → op ≡ Neg → unary_value op x ≡ Some n → unary_value Neg n ≡ Some x
negated_back op x n is e =
    let value : Some (neg_ℤ x) ≡ Some n = subst (λ (o : NOp). unary_value o x ≡ Some n) is e in
    let same : neg_ℤ x ≡ n = cc in
    ap (λ (m : ℤ). Some (neg_ℤ m)) (sym same) ∙ ap (λ (m : ℤ). Some m) (neg_ℤ-neg_ℤ x)

-- ---- signs

pub negated_by_sign : (sign n : ℤ) → (sign ≡ pos 1) ⊎ (sign ≡ negsuc 0) → (sign ≡ pos 1 → ⊥) → Some (neg_ℤ n) ≡ Some (sign *ℤ n)
negated_by_sign sign n (inl e) ne = absurd (ne e)
negated_by_sign sign n (inr e) ne = ap (λ (k : ℤ). Some k) (subst (λ (s : ℤ). neg_ℤ n ≡ s *ℤ n) (sym e) (omega (arith, ints)))

pub below_rest : (a b bound : ℤ) → (a +ℤ b) ≤ℤ bound → a ≤ℤ (bound -ℤ b)
below_rest a b bound h = omega (arith, ints)

pub other_way : (a b bound : ℤ) → (a +ℤ b) ≤ℤ bound → (b +ℤ a) ≤ℤ bound
other_way a b bound h = omega (arith, ints)

pub along_three : (P : ℤ → ℤ → ℤ → Type 0) (a b c d e f : ℤ) → d ≡ a → e ≡ b → f ≡ c → P a b c → P d e f
along_three P a b c d e f p q r h = subst (λ (x : ℤ). P x e f) (sym p) (subst (λ (x : ℤ). P a x f) (sym q) (subst (λ (x : ℤ). P a b x) (sym r) h))
