-- Ranges of whole numbers.
use Rattle.std.specs.Prelude.{ℕ, ℤ, ◌≡◌, Bool, nat_eq, if◌then◌else◌}
use Rattle.ext_int.specs.Ext.{Below, Above, AtMost, lesser, greater, holds_number}
use Rattle.ext_int.specs.declared.Ext.TheVariants.{Low, Fin, High}
use Rattle.num_api.specs.declared.message.Range.{Range}

-- the number lies between the range's ends
pub record InRange (r : Range) (n : ℤ) : Type 0 where
  pub low : Below r.lo n
  pub high : Above r.hi n

-- the range holds this number and nothing else
pub record IsPoint (r : Range) (n : ℤ) : Type 0 where
  pub low : r.lo ≡ Fin n
  pub high : r.hi ≡ Fin n

-- the first range lies inside the second
pub record NoWider (r s : Range) : Type 0 where
  pub low : AtMost s.lo r.lo
  pub high : AtMost r.hi s.hi

-- some number is in the range
abbrev pub holds_some : Range → Bool
holds_some r = holds_number r.lo r.hi

-- the range of all whole numbers
abbrev pub all_numbers : Range
all_numbers = record { lo = Low; hi = High }

-- the least range that holds both
abbrev pub hull : Range → Range → Range
hull r s = record { lo = lesser r.lo s.lo; hi = greater r.hi s.hi }

-- the numbers of both
abbrev pub common : Range → Range → Range
common r s = record { lo = greater r.lo s.lo; hi = lesser r.hi s.hi }

-- ---- a range for each variable

-- the given ranges, with another one for x
abbrev pub with_range : (ℕ → Range) → ℕ → Range → ℕ → Range
with_range given x r y = if nat_eq y x then r else given y

-- the range of each variable is no wider than its given one
abbrev pub IsUnder : (ℕ → Range) → (ℕ → Range) → Type 0
IsUnder known given = (x : ℕ) → NoWider (known x) (given x)
