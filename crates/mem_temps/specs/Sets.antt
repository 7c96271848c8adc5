-- The states of a set of ranges.
use Rattle.std.specs.Prelude.{◌≡◌, ℕ, ◌≤◌, List, [], length, Some, slice_get}
use Rattle.block_mem.specs.declared.types.Scalar.{Scalar}
use Rattle.block_mem.specs.declared.types.Value.{Value}
use Rattle.num_api.specs.declared.message.Range.{Range}
use Rattle.csharp.specs.States.{State}
use Rattle.mem_api.specs.Owned.{IsOwned}
use Rattle.mem_temps.specs.Values.{HasKind}
use Rattle.mem_temps.specs.Ranges.{AreIn, AreAll, AreInside}

-- the temporaries have values of these types in these ranges, and memory has blocks of so many objects
pub record Stands (objects : ℕ) (types : List Scalar) (ranges : List Range) (s : State) : Type 0 where
  pub owned : IsOwned objects s.memory
  pub places : length s.memory.places ≤ objects
  pub size : length s.temps ≡ length types
  pub kinds : (d : ℕ) (ty : Scalar) (v : Value) → slice_get types d ≡ Some ty → slice_get s.temps d ≡ Some v → HasKind ty v
  pub temps : AreIn ranges s

-- there are no objects and no inputs, and each range is a point
pub record IsSharp (objects : ℕ) (types : List Scalar) (ranges : List Range) (s : State) : Type 0 where
  pub stands : Stands objects types ranges s
  pub none : objects ≡ 0
  pub all : AreAll ranges s
  pub inside : AreInside types ranges
  pub inputs : s.inputs ≡ []
