-- Where the ends of an interval go when it is widened.
use Rattle.std.specs.Prelude.{ℤ, List, Option, Some, None, if◌then◌else◌}
use Rattle.ext_int.specs.declared.Ext.{Ext}
use Rattle.ext_int.specs.declared.Ext.TheVariants.{Low, Fin, High}
use Rattle.num_api.specs.declared.message.Range.{Range}
use Rattle.num_api.specs.Steps.{least, greatest}
use Rattle.intervals.specs.declared.Interval.{Interval}
use Rattle.intervals.specs.Interval.{least_end, greatest_end}
use Rattle.intervals.specs.Order.{is_at_most}

-- the step as an end, or the infinite end where there is none
abbrev pub step_or : Ext → Option ℤ → Ext
step_or infinite None = infinite
step_or infinite (Some step) = Fin step

-- the least step that is not below the end, and the greatest that is not above it
abbrev pub step_above : List ℤ → Ext → Ext
step_above steps Low = High
step_above steps (Fin n) = step_or High (least steps n)
step_above steps High = High

abbrev pub step_below : List ℤ → Ext → Ext
step_below steps Low = Low
step_below steps (Fin n) = step_or Low (greatest steps n)
step_below steps High = Low

-- an upper end stays where the next one is not above it, and else goes on to a step above that one
abbrev pub raised : List ℤ → Ext → Ext → Ext
raised steps old next = if is_at_most next old then old else step_above steps next

-- a lower end stays where the next one is not below it, and else goes on to a step below that one
abbrev pub lowered : List ℤ → Ext → Ext → Ext
lowered steps old next = if is_at_most old next then old else step_below steps next

abbrev pub widened : List ℤ → Interval → Interval → Range
widened steps i j = record { lo = lowered steps (least_end i) (least_end j); hi = raised steps (greatest_end i) (greatest_end j) }
