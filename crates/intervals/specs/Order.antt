-- The order of ends as tests, and what two intervals say of a comparison of their numbers.
use Rattle.std.specs.Prelude.{Bool, true, false, ◌&&◌, ◌||◌}
use Rattle.std.specs.Int.RustNames.{int_le, int_lt}
use Rattle.ext_int.specs.declared.Ext.{Ext}
use Rattle.ext_int.specs.declared.Ext.TheVariants.{Low, Fin, High}
use Rattle.intervals.specs.declared.Interval.{Interval}
use Rattle.intervals.specs.Interval.{least_end, greatest_end}

-- the first end is at or below the second
abbrev pub is_at_most : Ext → Ext → Bool
is_at_most Low b = true
is_at_most (Fin x) Low = false
is_at_most (Fin x) (Fin y) = int_le x y
is_at_most (Fin x) High = true
is_at_most High Low = false
is_at_most High (Fin y) = false
is_at_most High High = true

-- the first end is below the second
abbrev pub is_before : Ext → Ext → Bool
is_before Low Low = false
is_before Low (Fin y) = true
is_before Low High = true
is_before (Fin x) Low = false
is_before (Fin x) (Fin y) = int_lt x y
is_before (Fin x) High = true
is_before High b = false

-- each number of the second interval is in the first
abbrev pub includes : Interval → Interval → Bool
includes i j = is_at_most (least_end i) (least_end j) && is_at_most (greatest_end j) (greatest_end i)

-- some number of the first and some of the second are equal; some two are not; and so for the order
abbrev pub may_equal : Interval → Interval → Bool
may_equal i j = is_at_most (least_end i) (greatest_end j) && is_at_most (least_end j) (greatest_end i)

abbrev pub may_differ : Interval → Interval → Bool
may_differ i j = is_before (least_end i) (greatest_end j) || is_before (least_end j) (greatest_end i)

abbrev pub may_be_less : Interval → Interval → Bool
may_be_less i j = is_before (least_end i) (greatest_end j)

abbrev pub may_be_at_most : Interval → Interval → Bool
may_be_at_most i j = is_at_most (least_end i) (greatest_end j)
