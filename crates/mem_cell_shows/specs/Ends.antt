-- Ends and classes that hold numbers of a set.
use Rattle.std.specs.Prelude.{ℤ, ◌≡◌, List, Option, Some}
use Rattle.c_syntax.specs.Admission.{IsBetween, IsInClass, IsProperRange}
use Rattle.c_syntax.specs.declared.alarm.Shown.{Shown}
use Rattle.c_syntax.specs.declared.alarm.Shown.TheVariants as shows
use Rattle.mem_cell_shows.specs.declared.ends.Ends.{Ends}

-- the number lies between the ends that are there, and is of the class
abbrev pub LiesIn : Ends → ℤ → Type 0
LiesIn w n = IsBetween w.lo w.hi n × IsInClass w.modulus w.rem n

-- they may be shown
abbrev pub IsProperEnds : Ends → Type 0
IsProperEnds w = IsProperRange w.lo w.hi w.modulus w.rem

-- as they are shown
abbrev pub number_shown : Ends → Shown
number_shown w = shows.Number w.lo w.hi w.modulus w.rem

-- what has a number in the valuations has one of these
pub record HoldsNumbers (A : List ℤ → Type 0) (number : List ℤ → Option ℤ) (w : Ends) : Type 0 where
  pub holds : (v : List ℤ) (n : ℤ) → A v → number v ≡ Some n → LiesIn w n
  pub proper : IsProperEnds w
