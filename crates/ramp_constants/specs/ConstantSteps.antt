-- The steps of the constants ramp: those of the powers ramp, each constant of a program, its two neighbours, and the negations of these three
-- (this profile).
use Rattle.std.specs.Prelude.{◌≡◌, ◌↔◌, ℤ, pos, ◌+ℤ◌, ◌-ℤ◌, ◌^◌, neg_ℤ, int_le, ◌&&◌, if◌then◌else◌, List, [], ◌∷◌, ◌++◌, Contains, All, map, reverse}
use Rattle.std.specs.List.{flat_map}
use Rattle.num_api.specs.Powers.{power_steps}
use Rattle.num_api.specs.Steps.{IsRising, IsSmall}
use Rattle.c_syntax.specs.Program.{TProgramTree}
use Rattle.ramp_constants.specs.Constants.{program_constants}
use Rattle.ramp_constants.specs.declared.kind.RampKind.{RampKind}
use Rattle.ramp_constants.specs.declared.kind.RampKind.TheVariants.{Powers, Constants}

-- a constant, its neighbours, and their negations
abbrev pub around : ℤ → List ℤ
around c = c ∷ (c -ℤ pos 1) ∷ (c +ℤ pos 1) ∷ neg_ℤ c ∷ neg_ℤ (c -ℤ pos 1) ∷ neg_ℤ (c +ℤ pos 1) ∷ []

-- those of a constant of a size of at most 2^64; a larger one gives none
abbrev pub steps_around : ℤ → List ℤ
steps_around c = if int_le (neg_ℤ (pos (2 ^ 64))) c && int_le c (pos (2 ^ 64)) then around c else []

-- all steps of a program, as they come
abbrev pub steps_of : TProgramTree → List ℤ
steps_of program = power_steps ++ flat_map steps_around (program_constants program)

-- those of a ramp of this kind
abbrev pub steps_by : RampKind → TProgramTree → List ℤ
steps_by Powers program = power_steps
steps_by Constants program = steps_of program

-- the list has these numbers and no others, in rising order, and with each its negation; none has a size above 2^100
pub record AreSteps (numbers steps : List ℤ) : Type 0 where
  pub rising : IsRising steps
  pub same : (n : ℤ) → Contains steps n ↔ Contains numbers n
  pub mirrored : reverse (map neg_ℤ steps) ≡ steps
  pub small : All IsSmall steps
