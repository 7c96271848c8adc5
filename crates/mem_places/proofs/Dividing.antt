-- The alignments that divide a number, by its remainders.
use Rattle.std.proofs.Common.{◌≡◌, ◌≤◌, ℤ, pos, negsuc, ◌+ℤ◌, ◌-ℤ◌, ◌*ℤ◌, ◌/◌, neg_ℤ, arith, refl, sym, subst, inl, inr}
use Rattle.std.specs.Int.{int_rem_euclid}
use Rattle.std.specs.Int.RustNames.{unsigned_abs}
use Rattle.std.proofs.lemmas.Int.{ints}
use Rattle.num_api.specs.Fold.{IsAlignment}
use Rattle.num_api.specs.Residues.{IsMultiple}
use Rattle.num_api.proofs.Multiples.{multiple_along, multiple_add, multiple_sub, multiple_times, times_multiple, multiple_trans}
use Rattle.num_api.proofs.Rings.{add_mul, mul_add, neg_mul, mul_neg}
use Rattle.mem_places.specs.Units.{IsUnit}

-- ---- remainders

by_eight : (n : ℤ) → int_rem_euclid n (pos 8) ≡ pos 0 → IsMultiple (pos 8) n
by_eight (pos a) e = (pos (a / 8), omega (arith, ints))
by_eight (negsuc a) e = (negsuc (a / 8), omega (arith, ints))

by_four : (n : ℤ) → int_rem_euclid n (pos 4) ≡ pos 0 → IsMultiple (pos 4) n
by_four (pos a) e = (pos (a / 4), omega (arith, ints))
by_four (negsuc a) e = (negsuc (a / 4), omega (arith, ints))

by_two : (n : ℤ) → int_rem_euclid n (pos 2) ≡ pos 0 → IsMultiple (pos 2) n
by_two (pos a) e = (pos (a / 2), omega (arith, ints))
by_two (negsuc a) e = (negsuc (a / 2), omega (arith, ints))

of_eight : (n : ℤ) → IsMultiple (pos 8) n → int_rem_euclid n (pos 8) ≡ pos 0
of_eight (pos a) (k, e) = omega (arith, ints)
of_eight (negsuc a) (k, e) = omega (arith, ints)

of_four : (n : ℤ) → IsMultiple (pos 4) n → int_rem_euclid n (pos 4) ≡ pos 0
of_four (pos a) (k, e) = omega (arith, ints)
of_four (negsuc a) (k, e) = omega (arith, ints)

of_two : (n : ℤ) → IsMultiple (pos 2) n → int_rem_euclid n (pos 2) ≡ pos 0
of_two (pos a) (k, e) = omega (arith, ints)
of_two (negsuc a) (k, e) = omega (arith, ints)

-- ---- units

one_divides : (n : ℤ) → IsMultiple (pos 1) n
one_divides n = (n, omega (arith, ints))

eight_multiple : (c : ℤ) → IsAlignment c → IsMultiple c (pos 8)
eight_multiple c (inl e) = subst (λ (x : ℤ). IsMultiple x (pos 8)) (sym e) (pos 8, refl)
eight_multiple c (inr (inl e)) = subst (λ (x : ℤ). IsMultiple x (pos 8)) (sym e) (pos 4, refl)
eight_multiple c (inr (inr (inl e))) = subst (λ (x : ℤ). IsMultiple x (pos 8)) (sym e) (pos 2, refl)
eight_multiple c (inr (inr (inr e))) = subst (λ (x : ℤ). IsMultiple x (pos 8)) (sym e) (pos 1, refl)

pub unit_eight : (n : ℤ) → int_rem_euclid n (pos 8) ≡ pos 0 → IsUnit n (pos 8)
unit_eight n e = record { alignment = inr (inr (inr refl)); divides = by_eight n e; greatest = λ c a m. eight_multiple c a }

pub unit_four : (n : ℤ) → (int_rem_euclid n (pos 8) ≡ pos 0 → ⊥) → int_rem_euclid n (pos 4) ≡ pos 0 → IsUnit n (pos 4)
unit_four n eight e = record { alignment = inr (inr (inl refl)); divides = by_four n e; greatest = λ c a m. all c a m } where
  all : (c : ℤ) → IsAlignment c → IsMultiple c n → IsMultiple c (pos 4)
  all c (inl e) m = subst (λ (x : ℤ). IsMultiple x (pos 4)) (sym e) (one_divides (pos 4))
  all c (inr (inl e)) m = subst (λ (x : ℤ). IsMultiple x (pos 4)) (sym e) (pos 2, refl)
  all c (inr (inr (inl e))) m = subst (λ (x : ℤ). IsMultiple x (pos 4)) (sym e) (pos 1, refl)
  all c (inr (inr (inr e))) m = absurd (eight (of_eight n (subst (λ (x : ℤ). IsMultiple x n) e m)))

pub unit_two : (n : ℤ) → (int_rem_euclid n (pos 8) ≡ pos 0 → ⊥) → (int_rem_euclid n (pos 4) ≡ pos 0 → ⊥) → int_rem_euclid n (pos 2) ≡ pos 0
    → IsUnit n (pos 2)
unit_two n eight never e = record { alignment = inr (inl refl); divides = by_two n e; greatest = λ c a m. all c a m } where
  all : (c : ℤ) → IsAlignment c → IsMultiple c n → IsMultiple c (pos 2)
  all c (inl e) m = subst (λ (x : ℤ). IsMultiple x (pos 2)) (sym e) (one_divides (pos 2))
  all c (inr (inl e)) m = subst (λ (x : ℤ). IsMultiple x (pos 2)) (sym e) (pos 1, refl)
  all c (inr (inr (inl e))) m = absurd (never (of_four n (subst (λ (x : ℤ). IsMultiple x n) e m)))
  all c (inr (inr (inr e))) m = absurd (eight (of_eight n (subst (λ (x : ℤ). IsMultiple x n) e m)))

pub unit_one : (n : ℤ) → (int_rem_euclid n (pos 8) ≡ pos 0 → ⊥) → (int_rem_euclid n (pos 4) ≡ pos 0 → ⊥) → (int_rem_euclid n (pos 2) ≡ pos 0 → ⊥)
    → IsUnit n (pos 1)
unit_one n eight never none = record { alignment = inl refl; divides = one_divides n; greatest = λ c a m. all c a m } where
  all : (c : ℤ) → IsAlignment c → IsMultiple c n → IsMultiple c (pos 1)
  all c (inl e) m = subst (λ (x : ℤ). IsMultiple x (pos 1)) (sym e) (pos 1, refl)
  all c (inr (inl e)) m = absurd (none (of_two n (subst (λ (x : ℤ). IsMultiple x n) e m)))
  all c (inr (inr (inl e))) m = absurd (never (of_four n (subst (λ (x : ℤ). IsMultiple x n) e m)))
  all c (inr (inr (inr e))) m = absurd (eight (of_eight n (subst (λ (x : ℤ). IsMultiple x n) e m)))

-- ---- products

-- a number and its remainder by 8
pub off_by_eight : (n : ℤ) → IsMultiple (pos 8) (n -ℤ int_rem_euclid n (pos 8))
off_by_eight (pos a) = (pos (a / 8), omega (arith, ints))
off_by_eight (negsuc a) = (negsuc (a / 8), omega (arith, ints))

pub rest_small : (n : ℤ) → unsigned_abs (int_rem_euclid n (pos 8)) ≤ 7
rest_small (pos a) = omega (arith, ints)
rest_small (negsuc a) = omega (arith, ints)

product_off : (x n a b : ℤ) → IsMultiple (pos 8) (x -ℤ a) → IsMultiple (pos 8) (n -ℤ b) → IsMultiple (pos 8) ((x *ℤ n) -ℤ (a *ℤ b))
product_off x n a b h k = multiple_along (pos 8) ((x *ℤ (n -ℤ b)) +ℤ ((x -ℤ a) *ℤ b)) ((x *ℤ n) -ℤ (a *ℤ b)) same
    (multiple_add (pos 8) (x *ℤ (n -ℤ b)) ((x -ℤ a) *ℤ b) (multiple_times (pos 8) x (n -ℤ b) k) (times_multiple (pos 8) (x -ℤ a) b h))
  where
    same : ((x *ℤ (n -ℤ b)) +ℤ ((x -ℤ a) *ℤ b)) ≡ ((x *ℤ n) -ℤ (a *ℤ b))
    same =
        let e = mul_add x n (neg_ℤ b) in let f = mul_neg x b in let g = add_mul x (neg_ℤ a) b in let h = neg_mul a b in
        omega (arith, ints)

-- numbers that are the same up to a multiple of 8 have one unit
unit_along : (m n u : ℤ) → IsMultiple (pos 8) (n -ℤ m) → IsUnit m u → IsUnit n u
unit_along m n u off f = record {
  alignment = f.alignment;
  divides = multiple_along u ((n -ℤ m) +ℤ m) n (omega (arith, ints)) (multiple_add u (n -ℤ m) m (along u f.alignment) f.divides);
  greatest = λ c a d. f.greatest c a (multiple_along c (n -ℤ (n -ℤ m)) m (omega (arith, ints)) (multiple_sub c n (n -ℤ m) d (along c a)));
}
  where
    along : (c : ℤ) → IsAlignment c → IsMultiple c (n -ℤ m)
    along c a = multiple_trans c (pos 8) (n -ℤ m) (eight_multiple c a) off

pub unit_product : (x n a b u : ℤ) → IsMultiple (pos 8) (x -ℤ a) → IsMultiple (pos 8) (n -ℤ b) → IsUnit (a *ℤ b) u → IsUnit (x *ℤ n) u
unit_product x n a b u h k f = unit_along (a *ℤ b) (x *ℤ n) u (product_off x n a b h k) f
