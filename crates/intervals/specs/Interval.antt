-- Intervals of whole numbers.
use Rattle.std.specs.Prelude.{◌≡◌, ℤ, pos, ◌≤ℤ◌, ◌⊎◌, if◌then◌else◌}
use Rattle.std.specs.Ordering.{int_eq}
use Rattle.intervals.specs.declared.Interval.{Interval}
use Rattle.ext_int.specs.declared.Ext.{Ext}
use Rattle.ext_int.specs.declared.Ext.TheVariants.{Fin}
use Rattle.ext_int.specs.Ext.{Below, Above, AtMost, IsNumber, IsPositive, IsNegative}
use Rattle.num_api.specs.declared.message.Range.{Range}
use Rattle.num_api.specs.declared.message.Residue.{Residue}
use Rattle.num_api.specs.Spans.{Span}

-- the least end of the interval: its least number, or Low
abbrev pub least_end : Interval → Ext
least_end i = i.lo

-- the greatest end of the interval: its greatest number, or High
abbrev pub greatest_end : Interval → Ext
greatest_end i = i.hi

-- the number lies between the interval's ends
abbrev pub Admits : Interval → ℤ → Type 0
Admits i n = Below (least_end i) n × Above (greatest_end i) n

-- the interval holds this number and nothing else
abbrev pub IsPoint : Interval → ℤ → Type 0
IsPoint i n = (least_end i ≡ Fin n) × (greatest_end i ≡ Fin n)

-- both ends are numbers
abbrev pub IsFinite : Interval → Type 0
IsFinite i = IsNumber (least_end i) × IsNumber (greatest_end i)

-- the number lies between these two
abbrev pub IsBetween : ℤ → ℤ → ℤ → Type 0
IsBetween l h n = (l ≤ℤ n) × (n ≤ℤ h)

-- the whole interval lies between the two numbers
abbrev pub LiesBetween : ℤ → ℤ → Interval → Type 0
LiesBetween l h i = AtMost (Fin l) (least_end i) × AtMost (greatest_end i) (Fin h)

-- all numbers of the interval are above 0, or all are below it
abbrev pub IsOneSided : Interval → Type 0
IsOneSided i = IsPositive (least_end i) ⊎ IsNegative (greatest_end i)

-- it lies inside the span
abbrev pub IsWithin : Span → Interval → Type 0
IsWithin s i = LiesBetween s.lo s.hi i

-- its ends as a range
abbrev pub ends_of : Interval → Range
ends_of i = record { lo = least_end i; hi = greatest_end i }

-- the class of the number at both ends, or that of all numbers where they are not one number
abbrev pub class_between : Ext → Ext → Residue
class_between (Fin a) (Fin b) = if int_eq a b then record { rem = a; modulus = pos 0 } else record { rem = pos 0; modulus = pos 1 }
class_between a b = record { rem = pos 0; modulus = pos 1 }

abbrev pub class_of : Interval → Residue
class_of i = class_between (least_end i) (greatest_end i)
