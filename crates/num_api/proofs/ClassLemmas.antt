-- Facts of classes.
use Rattle.std.proofs.Common.{ℤ, pos, ◌≤ℤ◌, arith, ◌≡◌, true}
use Rattle.std.specs.Ordering.{int_eq}
use Rattle.std.proofs.lemmas.Int.{ints}
use Rattle.std.proofs.lemmas.Bool.Decides.{Decides-int_eq}
use Rattle.ext_int.specs.declared.Ext.TheVariants.{Fin}
use Rattle.ext_int.specs.Ext.{Below, Above}
use Rattle.num_api.specs.Residues.{InResidue, IsResidue}

-- a modulus of 1 holds every number
pub in_any : (n : ℤ) → InResidue (record { rem = pos 0; modulus = pos 1 }) n
in_any n = (n, omega (arith, ints))

between : (a b n : ℤ) → a ≡ b → Below (Fin a) n → Above (Fin b) n → InResidue (record { rem = a; modulus = pos 0 }) n
between a b n e low high = (pos 0, omega (arith, ints))

-- a number between two ends that are one number is in the class of that number alone
pub in_point : (a b n : ℤ) → int_eq a b ≡ true → Below (Fin a) n → Above (Fin b) n → InResidue (record { rem = a; modulus = pos 0 }) n
in_point a b n e low high = between a b n ((Decides-int_eq a b).0 e) low high

-- the class of all numbers, and that of one number, have a proper modulus and remainder
pub any_is_proper : IsResidue (record { rem = pos 0; modulus = pos 1 })
any_is_proper = record { not_negative = omega (arith, ints); bounded = omega (arith, ints); rem_low = λ h. omega (arith, ints); rem_high = λ h. omega (arith, ints) }

pub point_is_proper : (n : ℤ) → IsResidue (record { rem = n; modulus = pos 0 })
point_is_proper n = record { not_negative = omega (arith, ints); bounded = omega (arith, ints); rem_low = λ h. absurd (none h); rem_high = λ h. absurd (none h) }
  where
    none : pos 1 ≤ℤ pos 0 → ⊥
    none h = omega (arith, ints)
