-- An expression whose check has passed just now, with a range of its value.
use Rattle.std.specs.Prelude.{◌≡◌, ℕ, Bool, true, false, List, [], ◌∷◌, Option, Some, None, if◌then◌else◌}
use Rattle.block_mem.specs.declared.types.Value.{Value}
use Rattle.num_api.specs.declared.message.Range.{Range}
use Rattle.num_api.specs.Ranges.{InRange, hull}
use Rattle.csharp.specs.Trees.{CsExprTree, csexpr_tree}
use Rattle.csharp.specs.States.{State, value_of}
use Rattle.csharp.specs.SameExprs.{is_same_expr}
use Rattle.mem_temps.specs.Values.{number_of}
use Rattle.mem_intervals.specs.declared.passed.Item.{Item}

pub record Remembered : Type 0 where
  pub expr : CsExprTree
  pub range : Range

abbrev pub remembered : Item → Remembered
remembered i = record { expr = csexpr_tree i.expr; range = i.range }

-- the value of the expression lies in the range
abbrev pub IsPassed : Option Remembered → State → Type 0
IsPassed None s = Unit {0}
IsPassed (Some r) s = (v : Value) → value_of r.expr s ≡ Some v → InRange r.range (number_of v)

abbrev pub is_remembered : Option Remembered → Bool
is_remembered None = false
is_remembered (Some r) = true

-- the range of this very expression
abbrev pub passed_range : Option Remembered → CsExprTree → Option Range
passed_range None e = None
passed_range (Some r) e = if is_same_expr r.expr e then Some r.range else None

-- what has passed on both sides
abbrev pub with_hull : Remembered → Option Range → Option Remembered
with_hull r None = None
with_hull r (Some s) = Some (record r { range = hull r.range s })

abbrev pub joined_passed : Option Remembered → Option Remembered → Option Remembered
joined_passed None other = None
joined_passed (Some r) other = with_hull r (passed_range other r.expr)

-- it is dropped where an object begins or ends
abbrev pub kept_for : List ℕ → Option Remembered → Option Remembered
kept_for [] passed = passed
kept_for (x ∷ xs) passed = None
