-- What a fact says of a state, which gives a number, or none, and a spot, or none, to each cell.
use Rattle.std.specs.Prelude.{ℤ, ◌+ℤ◌, ◌*ℤ◌, ◌≤ℤ◌, List, Option, IfSome}
use Rattle.c_syntax.specs.declared.alarm.Cell.{Cell}
use Rattle.c_syntax.specs.declared.alarm.Spot.{Spot}
use Rattle.c_syntax.specs.declared.alarm.Fact.{Fact}
use Rattle.c_syntax.specs.declared.alarm.Fact.TheVariants as facts
use Rattle.c_syntax.specs.Types.{ObjectTree}
use Rattle.c_syntax.specs.Admission.{IsInClass, IsSpotIn}

-- the fact holds, or a cell that it names has no number or no spot
abbrev pub FactHolds : List ObjectTree → (Cell → Option ℤ) → (Cell → Option Spot) → Fact → Type 0
FactHolds objects number spot (facts.Between x lo hi) = IfSome (number x) (λ n. (lo ≤ℤ n) × (n ≤ℤ hi))
FactHolds objects number spot (facts.Class x rem modulus) = IfSome (number x) (λ n. IsInClass modulus rem n)
FactHolds objects number spot (facts.AtMost sx x sy y bound) =
    IfSome (number x) (λ m. IfSome (number y) (λ n. ((sx *ℤ m) +ℤ (sy *ℤ n)) ≤ℤ bound))
FactHolds objects number spot (facts.PointsTo x set) = IfSome (spot x) (λ s. IsSpotIn objects set s)
