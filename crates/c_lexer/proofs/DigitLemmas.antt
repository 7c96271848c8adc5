-- Digits at the front of a text.
use Rattle.std.proofs.Common.{◌≡◌, ℕ, zero, suc, ◌+◌, ◌*◌, ◌<◌, ◌≤◌, inl, inr, List, [], ◌∷◌, ◌++◌, length, take, refl, sym, ap, ◌∙◌, arith, if◌then◌else◌}
use Rattle.std.proofs.lemmas.Bool.{cases_lt}
use Rattle.std.proofs.Math.Nat.{mul-le-mul_left}
use borrow.Author.Tests.{lt-ltb, le-ltb}
use Rattle.c_lexer.specs.Spelling.{digit_value, digits_of, value_from}

pub digit_in : (base b : ℕ) (s : List ℕ) → digit_value b < base → digits_of base (b ∷ s) ≡ b ∷ digits_of base s
digit_in base b s h = ap (λ t. if t then b ∷ digits_of base s else []) (lt-ltb (digit_value b) base h)

pub digit_out : (base b : ℕ) (s : List ℕ) → base ≤ digit_value b → digits_of base (b ∷ s) ≡ []
digit_out base b s h = ap (λ t. if t then b ∷ digits_of base s else []) (le-ltb (digit_value b) base h)

pub digits_short : (base : ℕ) (s : List ℕ) → length (digits_of base s) ≤ length s
digits_short base [] = omega arith
digits_short base (b ∷ s) =
    elim (cases_lt (digit_value b) base) [
      | inl lt ↦ omega (arith, ap length (digit_in base b s lt), digits_short base s)
      | inr ge ↦ omega (arith, ap length (digit_out base b s ge))
    ]

pub digits_taken : (base : ℕ) (s : List ℕ) → take (length (digits_of base s)) s ≡ digits_of base s
digits_taken base [] = refl
digits_taken base (b ∷ s) =
    elim (cases_lt (digit_value b) base) [
      | inl lt ↦ ap (λ l. take (length l) (b ∷ s)) (digit_in base b s lt) ∙ ap (λ l. b ∷ l) (digits_taken base s) ∙ sym (digit_in base b s lt)
      | inr ge ↦ ap (λ l. take (length l) (b ∷ s)) (digit_out base b s ge) ∙ sym (digit_out base b s ge)
    ]

-- two texts that are not empty and begin with one byte
pub record BeginAlike (z w : List ℕ) : Type 0 where
  pub byte : ℕ
  pub z_rest : List ℕ
  pub w_rest : List ℕ
  pub z_is : z ≡ byte ∷ z_rest
  pub w_is : w ≡ byte ∷ w_rest

first_no_digit : (base : ℕ) (z w : List ℕ) → BeginAlike z w → length (digits_of base z) ≤ 0 → digits_of base w ≡ digits_of base z
first_no_digit base z w a h =
    elim (cases_lt (digit_value a.byte) base) [
      | inl lt ↦ absurd (omega (arith, ap (λ v. length (digits_of base v)) a.z_is, ap length (digit_in base a.byte a.z_rest lt)))
      | inr ge ↦ ap (digits_of base) a.w_is ∙ digit_out base a.byte a.w_rest ge ∙ sym (ap (digits_of base) a.z_is ∙ digit_out base a.byte a.z_rest ge)
    ]

-- digits that end within a front do not depend on what follows the next byte
pub digits_alike : (base : ℕ) (s z w : List ℕ) → BeginAlike z w → length (digits_of base (s ++ z)) ≤ length s → digits_of base (s ++ w) ≡ digits_of base (s ++ z)
digits_alike base [] z w a h = first_no_digit base z w a h
digits_alike base (b ∷ s) z w a h =
    elim (cases_lt (digit_value b) base) [
      | inl lt ↦ digit_in base b (s ++ w) lt ∙ ap (λ l. b ∷ l) (digits_alike base s z w a (omega (arith, ap length (digit_in base b (s ++ z) lt)))) ∙ sym (digit_in base b (s ++ z) lt)
      | inr ge ↦ digit_out base b (s ++ w) ge ∙ sym (digit_out base b (s ++ z) ge)
    ]

taken_alike : (n : ℕ) (z w : List ℕ) → BeginAlike z w → BeginAlike (take (suc n) z) (take (suc n) w)
taken_alike n z w a = record { byte = a.byte; z_rest = take n a.z_rest; w_rest = take n a.w_rest; z_is = ap (take (suc n)) a.z_is; w_is = ap (take (suc n)) a.w_is }

pub few_digits_alike : (base n : ℕ) (s z w : List ℕ) → BeginAlike z w → length (digits_of base (take n (s ++ z))) ≤ length s → digits_of base (take n (s ++ w)) ≡ digits_of base (take n (s ++ z))
few_digits_alike base zero s z w a h = refl
few_digits_alike base (suc n) [] z w a h = first_no_digit base (take (suc n) z) (take (suc n) w) (taken_alike n z w a) h
few_digits_alike base (suc n) (b ∷ s) z w a h =
    elim (cases_lt (digit_value b) base) [
      | inl lt ↦ digit_in base b (take n (s ++ w)) lt ∙ ap (λ l. b ∷ l) (few_digits_alike base n s z w a (omega (arith, ap length (digit_in base b (take n (s ++ z)) lt)))) ∙ sym (digit_in base b (take n (s ++ z)) lt)
      | inr ge ↦ digit_out base b (take n (s ++ w)) ge ∙ sym (digit_out base b (take n (s ++ z)) ge)
    ]

pub value_grows : (base : ℕ) (s : List ℕ) (v : ℕ) → 0 < base → v ≤ value_from base v s
value_grows base [] v h = omega arith
value_grows base (b ∷ s) v h =
    let more = value_grows base s (base * v + digit_value b) h in
    let once : v * 1 ≤ v * base = mul-le-mul_left v h in
    omega (arith, more, once)
