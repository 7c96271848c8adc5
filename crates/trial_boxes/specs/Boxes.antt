-- The numbers between two ends, the choices of one of each of three lists, and what holds some numbers.
use Rattle.std.specs.Prelude.{ℤ, ◌≤ℤ◌, List, [], ◌∷◌, Option, Some, None, fold, flat_map, Contains}
use Rattle.std.specs.Int.{int_min, int_max}
use Rattle.ext_int.specs.declared.Ext.TheVariants.{Fin}
use Rattle.num_api.specs.declared.message.Range.{Range}
use Rattle.num_api.specs.declared.message.Residue.{Residue}
use Rattle.num_api.specs.Ranges.{InRange}
use Rattle.num_api.specs.Residues.{InResidue}

-- the list has each number from lo to hi, and no other one
pub record HasAllBetween (lo hi : ℤ) (numbers : List ℤ) : Type 0 where
  pub each : (n : ℤ) → lo ≤ℤ n → n ≤ℤ hi → Contains numbers n
  pub only : (n : ℤ) → Contains numbers n → (lo ≤ℤ n) × (n ≤ℤ hi)

-- the triples that begin with these, with each of the third numbers, in their order
abbrev pub with_thirds : ℤ → ℤ → List ℤ → List (List ℤ)
with_thirds a b thirds = flat_map (λ c. (a ∷ b ∷ c ∷ []) ∷ []) thirds

abbrev pub with_seconds : ℤ → List ℤ → List ℤ → List (List ℤ)
with_seconds a seconds thirds = flat_map (λ b. with_thirds a b thirds) seconds

abbrev pub triples : List ℤ → List ℤ → List ℤ → List (List ℤ)
triples firsts seconds thirds = flat_map (λ a. with_seconds a seconds thirds) firsts

-- the number lies in the range and is of the class
pub record IsHeld (r : Range) (c : Residue) (n : ℤ) : Type 0 where
  pub range : InRange r n
  pub class : InResidue c n

-- the least range that holds the numbers
abbrev pub hull_of : List ℤ → Option Range
hull_of [] = None
hull_of (n ∷ others) = Some (record { lo = Fin (fold int_min n others); hi = Fin (fold int_max n others) })
