-- How far a bound can still go when it moves from step to step: the weights that domains are made of.
use Rattle.std.specs.Prelude.{ℕ, ℤ, ◌+◌, List}
use Rattle.num_api.specs.Steps.{steps_above, steps_below}
use Rattle.ext_int.specs.declared.Ext.{Ext}
use Rattle.ext_int.specs.declared.Ext.TheVariants.{Low, Fin, High}
use Rattle.num_api.specs.declared.message.Range.{Range}

-- of an upper bound that is a number: one more than the steps above it; a missing bound goes nowhere
abbrev pub weight_above : List ℤ → Ext → ℕ
weight_above steps Low = 0
weight_above steps (Fin n) = steps_above steps n + 1
weight_above steps High = 0

-- of a lower bound that is a number: one more than the steps below it
abbrev pub weight_below : List ℤ → Ext → ℕ
weight_below steps Low = 0
weight_below steps (Fin n) = steps_below steps n + 1
weight_below steps High = 0

-- of a range: both ends
abbrev pub range_weight : List ℤ → Range → ℕ
range_weight steps r = weight_below steps r.lo + weight_above steps r.hi
