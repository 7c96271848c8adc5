-- Divisors, and the greatest common one.
use Rattle.std.proofs.Common.{◌≡◌, zero, suc, ℤ, pos, negsuc, ◌+ℤ◌, ◌-ℤ◌, ◌*ℤ◌, neg_ℤ, ◌≤ℤ◌, arith, ap, sym, ◌∙◌}
use Rattle.std.proofs.lemmas.Int.{ints}
use Rattle.std.proofs.Math.IntN.{*ℤ_comm, zero-*ℤ}
use Rattle.num_api.specs.Residues.{class_of, InResidue, IsMultiple}
use Rattle.residues.specs.Classes.{IsGreatestDivisor}
use Rattle.num_api.proofs.Rings.{add_mul, mul_add, neg_mul, mul_assoc}
use Rattle.num_api.proofs.Multiples.{multiple_along, multiple_add, multiple_times, zero_multiple, self_multiple}
use Rattle.num_api.proofs.Remainders.{times_above}

-- ---- divisors

-- a divisor of a number above 0 that is not below 0 lies above 0 and is not above it
pub divisor_positive : (g m : ℤ) → IsMultiple g m → pos 1 ≤ℤ m → pos 0 ≤ℤ g → pos 1 ≤ℤ g
divisor_positive (pos zero) m (k, p) h i = absurd (omega (arith, ints, *ℤ_comm k (pos zero), zero-*ℤ k))
divisor_positive (pos (suc n)) m d h i = omega (arith, ints)
divisor_positive (negsuc n) m d h i = absurd (omega (arith, ints))

pub divisor_bound : (g m : ℤ) → IsMultiple g m → pos 1 ≤ℤ m → pos 0 ≤ℤ g → g ≤ℤ m
divisor_bound g m (pos zero, p) h i = absurd (omega (arith, ints, zero-*ℤ g))
divisor_bound g m (pos (suc j), p) h i = let e = times_above (pos (suc j)) g (omega (arith, ints)) i in omega (arith, ints)
divisor_bound g m (negsuc j, p) h i = let e = times_above (pos (suc j)) g (omega (arith, ints)) i in let f : negsuc j *ℤ g ≡ neg_ℤ (pos (suc j) *ℤ g) = neg_mul (pos (suc j)) g in absurd (omega (arith, ints))

-- ---- the greatest common divisor

pub divisor_of_zero : (a : ℤ) → pos 0 ≤ℤ a → IsGreatestDivisor a (pos 0) a
divisor_of_zero a h = record {
  not_negative = h;
  first = self_multiple a;
  second = zero_multiple a;
  combined = (pos 1, pos 0, omega (arith, ints));
}

pub divisor_step : (a b r g : ℤ) → InResidue (class_of r b) a → IsGreatestDivisor b r g → IsGreatestDivisor a b g
divisor_step a b r g (k, p) d = record {
  not_negative = d.not_negative;
  first = multiple_along g (r +ℤ (k *ℤ b)) a (sym p) (multiple_add g r (k *ℤ b) d.second (multiple_times g k b d.first));
  second = d.first;
  combined = combine d.combined;
}
  where
    combine : (x : ℤ) × (y : ℤ) × (g ≡ (x *ℤ b) +ℤ (y *ℤ r)) → (x : ℤ) × (y : ℤ) × (g ≡ (x *ℤ a) +ℤ (y *ℤ b))
    combine (x, y, q) =
        let e : y *ℤ a ≡ (y *ℤ r) +ℤ (y *ℤ (k *ℤ b)) = ap (λ (t : ℤ). y *ℤ t) p ∙ mul_add y r (k *ℤ b) in
        let f = mul_assoc y k b in
        let h = add_mul x (neg_ℤ (y *ℤ k)) b in
        let i = neg_mul (y *ℤ k) b in
        (y, x -ℤ (y *ℤ k), omega (arith, ints))
