-- When what a set knows is no wider than a plain state.
use Rattle.std.specs.Prelude.{◌≡◌, List, Option, Some}
use Rattle.block_mem.specs.declared.types.Scalar.{Scalar}
use Rattle.num_api.specs.declared.message.Range.{Range}
use Rattle.num_api.specs.Ranges.{NoWider}
use Rattle.num_api.specs.Spans.{range_of}
use Rattle.plain_runs.specs.States.{Plain, Passed}
use Rattle.mem_temps.specs.Ranges.{AreInside, AreUnder}
use Rattle.mem_intervals.specs.Passed.{Remembered}

-- where the plain state has a result that has passed, so has the set, with a range in its numbers
abbrev pub PassesUnder : Option Remembered → Option Passed → Type 0
PassesUnder passed plain = (r : Passed) → plain ≡ Some r → (found : Remembered) × (passed ≡ Some found) × (found.expr ≡ r.expr) × NoWider found.range (range_of r.numbers)

-- the range of each integer temporary lies in its type and in the interval of the plain state, and what has passed there has here
pub record IsUnderPlain (types : List Scalar) (ranges : List Range) (passed : Option Remembered) (p : Plain) : Type 0 where
  pub inside : AreInside types ranges
  pub under : AreUnder types ranges p
  pub passes : PassesUnder passed p.passed
