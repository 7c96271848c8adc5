-- Sums and products of sizes that are kept up to a bound.
use Rattle.std.proofs.Common.{◌≡◌, ℕ, zero, suc, ◌+◌, ◌*◌, ◌<◌, ◌≤◌, ap, sym, ◌∙◌, inl, inr, arith}
use Rattle.std.specs.Prelude.{Option, Some, None, option_map, unwrap_or}
use Rattle.std.proofs.lemmas.Bool.{cases_lt}
use Rattle.std.proofs.Math.Nat.{mul_comm}
use Rattle.c_layout.specs.Kept.{kept}
use Rattle.c_layout.specs.Layout.{padded}

pub kept_twice : (n : ℕ) → kept (kept n) ≡ kept n
kept_twice n = omega arith

kept_large-mul : (m n : ℕ) → 1099511627776 < m → kept (1099511627777 * n) ≡ kept (m * n)
kept_large-mul m zero h = omega arith
kept_large-mul m (suc n) h = omega arith

kept_exact : (n : ℕ) → n ≤ 1099511627776 → kept n ≡ n
kept_exact n h = omega arith

kept_large : (n : ℕ) → 1099511627776 < n → kept n ≡ 1099511627777
kept_large n h = omega arith

kept-mul_left : (m n : ℕ) → kept (kept m * n) ≡ kept (m * n)
kept-mul_left m n = elim (cases_lt 1099511627776 m) [
  | inl h ↦ ap (λ x. kept (x * n)) (kept_large m h) ∙ kept_large-mul m n h
  | inr h ↦ ap (λ x. kept (x * n)) (kept_exact m h)
]

kept-mul_right : (m n : ℕ) → kept (m * kept n) ≡ kept (m * n)
kept-mul_right m n = ap kept (mul_comm m (kept n)) ∙ kept-mul_left n m ∙ ap kept (mul_comm n m)

kept-mul : (m n : ℕ) → kept (kept m * kept n) ≡ kept (m * n)
kept-mul m n = kept-mul_left m (kept n) ∙ kept-mul_right m n

-- a product is kept by its kept factors
pub kept-mul_same : (a b m n : ℕ) → kept a ≡ kept m → kept b ≡ kept n → kept (a * b) ≡ kept (m * n)
kept-mul_same a b m n e f = sym (kept-mul a b) ∙ ap (λ x. kept (x * kept b)) e ∙ ap (λ x. kept (kept m * x)) f ∙ kept-mul m n

-- a sum is kept by its kept parts
pub kept_sum : (r a b m n : ℕ) → r ≡ kept (a + b) → a ≡ kept m → b ≡ kept n → r ≡ kept (m + n)
kept_sum r a b m n e f g = omega arith

pub kept-unwrap_or : (a b : Option ℕ) → a ≡ option_map kept b → kept (unwrap_or a zero) ≡ kept (unwrap_or b zero)
kept-unwrap_or a None e = ap (λ o. kept (unwrap_or o zero)) e
kept-unwrap_or a (Some n) e = ap (λ o. kept (unwrap_or o zero)) e ∙ kept_twice n

-- so is the next multiple of an alignment
pub kept-padded : (end at align : ℕ) → end ≡ kept at → kept (padded end align) ≡ kept (padded at align)
kept-padded end at align e = elim (cases_lt 1099511627776 at) [
  | inl h ↦
      let large : 1099511627776 < end = omega arith in
      kept_large (padded end align) (omega arith) ∙ sym (kept_large (padded at align) (omega arith))
  | inr h ↦ ap (λ n. kept (padded n align)) (e ∙ kept_exact at h)
]
