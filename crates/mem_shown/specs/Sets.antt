-- Which pointers are shown by a set.
use Rattle.std.specs.Prelude.{◌≡◌, ◌^◌, ◌<◌, ℕ, ℤ, pos, neg_ℤ, ◌≤ℤ◌, List, length}
use Rattle.c_syntax.specs.declared.alarm.Spot.{Spot}
use Rattle.c_syntax.specs.declared.alarm.Spot.TheVariants as spots
use Rattle.c_syntax.specs.declared.alarm.Pointers.{Pointers}
use Rattle.c_syntax.specs.Types.{ObjectTree}
use Rattle.c_syntax.specs.Admission.{IsSpotIn, IsProperSet}
use Rattle.mem_shown.specs.Decisions.{NamesBelow}

abbrev pub IsModerate : ℤ → Type 0
IsModerate d = (neg_ℤ (pos (2 ^ 126)) ≤ℤ d) × (d ≤ℤ pos (2 ^ 126))

-- the offset may be shown
abbrev pub IsModerateSpot : Spot → Type 0
IsModerateSpot (spots.At o d) = IsModerate d
IsModerateSpot s = Unit {0}

-- the spot is null, dead or in one of so many objects
abbrev pub IsSpotBelow : ℕ → Spot → Type 0
IsSpotBelow count (spots.At o d) = o < count
IsSpotBelow count s = Unit {0}

pub record HasNone (set : Pointers) : Type 0 where
  pub none : (objects : List ObjectTree) (s : Spot) → IsSpotIn objects set s → ⊥
  pub proper : IsProperSet set
  pub names : (count : ℕ) → NamesBelow count set

pub record HasAll (set : Pointers) : Type 0 where
  pub all : (objects : List ObjectTree) (s : Spot) → IsSpotBelow (length objects) s → IsSpotIn objects set s
  pub proper : IsProperSet set
  pub names : (count : ℕ) → NamesBelow count set

pub record HasAlone (spot : Spot) (set : Pointers) : Type 0 where
  pub there : (objects : List ObjectTree) → IsSpotIn objects set spot
  pub only : (objects : List ObjectTree) (s : Spot) → IsSpotIn objects set s → s ≡ spot
  pub proper : IsProperSet set
  pub names : (count : ℕ) → IsSpotBelow count spot → NamesBelow count set
