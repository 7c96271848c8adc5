-- Congruence classes of whole numbers. A modulus of 0 says that the number is the remainder, and one of 1 says nothing.
use Rattle.std.specs.Prelude.{ℤ, pos, ◌≡◌, ◌^◌, ◌+ℤ◌, ◌*ℤ◌, ◌≤ℤ◌, ◌<ℤ◌}
use Rattle.num_api.specs.declared.message.Residue.{Residue}

-- the numbers that are `rem` up to a multiple of `modulus`
abbrev pub class_of : ℤ → ℤ → Residue
class_of rem modulus = record { rem = rem; modulus = modulus }

-- the number is the remainder, up to a multiple of the modulus
abbrev pub InResidue : Residue → ℤ → Type 0
InResidue r n = (k : ℤ) × (n ≡ (r.rem +ℤ (k *ℤ r.modulus)))

-- the modulus is from 0 to 2^100, and under one of 1 or more the remainder is from 0 to the modulus less one
pub record IsResidue (r : Residue) : Type 0 where
  pub not_negative : pos 0 ≤ℤ r.modulus
  pub bounded : r.modulus ≤ℤ pos (2 ^ 100)
  pub rem_low : pos 1 ≤ℤ r.modulus → pos 0 ≤ℤ r.rem
  pub rem_high : pos 1 ≤ℤ r.modulus → r.rem <ℤ r.modulus

-- the number is a multiple of c
abbrev pub IsMultiple : ℤ → ℤ → Type 0
IsMultiple c n = (k : ℤ) × (n ≡ (k *ℤ c))

-- the remainder and the modulus are multiples of c
pub record IsFoldResidue (c : ℤ) (r : Residue) : Type 0 where
  pub rem : IsMultiple c r.rem
  pub modulus : IsMultiple c r.modulus
