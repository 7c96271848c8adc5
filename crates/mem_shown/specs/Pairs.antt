-- Two pointers of two sets.
use Rattle.std.specs.Prelude.{◌≡◌, ◌≢◌, ◌⊎◌, ℕ, ℤ, ◌-ℤ◌, List, None}
use Rattle.c_syntax.specs.declared.alarm.Pointers.{Pointers}
use Rattle.c_syntax.specs.declared.alarm.Spot.{Spot}
use Rattle.c_syntax.specs.declared.alarm.Spot.TheVariants as spots
use Rattle.c_syntax.specs.Types.{ObjectTree}
use Rattle.c_syntax.specs.Admission.{IsSpotIn, IsNoMultiple}
use Rattle.mem_shown.specs.declared.wanted.Wanted.{Wanted}
use Rattle.mem_shown.specs.Offsets.{IsWanted}

-- each of the two is in its set
pub record AreIn (objects : List ObjectTree) (left right : Pointers) (s t : Spot) : Type 0 where
  pub first : IsSpotIn objects left s
  pub second : IsSpotIn objects right t

-- a pointer to no object that is there: null, or dead
abbrev pub IsNowhere : Spot → Type 0
IsNowhere spots.Null = Unit {0}
IsNowhere spots.Dead = Unit {0}
IsNowhere (spots.At o d) = ⊥

-- the two are in their sets, and one of them is this one
pub record IsWithOne (objects : List ObjectTree) (left right : Pointers) (bad s t : Spot) : Type 0 where
  pub are_in : AreIn objects left right s t
  pub one : (s ≡ bad) ⊎ (t ≡ bad)

-- each of the two points to what is looked for in its set, and they point to different objects
pub record AreWanted (objects : List ObjectTree) (left : Pointers) (of_left : Wanted) (right : Pointers) (of_right : Wanted)
    (o : ℕ) (d : ℤ) (p : ℕ) (e : ℤ) : Type 0 where
  pub first : IsWanted objects left of_left None o d
  pub second : IsWanted objects right of_right None p e
  pub apart : o ≢ p

-- the two are in their sets, and their offsets differ by no multiple of the size
pub record AreUnlike (objects : List ObjectTree) (left right : Pointers) (size : ℕ) (o : ℕ) (d : ℤ) (p : ℕ) (e : ℤ) : Type 0 where
  pub are_in : AreIn objects left right (spots.At o d) (spots.At p e)
  pub unlike : IsNoMultiple size (d -ℤ e)
