-- A range for each temporary, and what it tells of a state.
use Rattle.std.specs.Prelude.{◌≡◌, ℕ, Bool, true, false, not, ◌||◌, List, [], ◌∷◌, Some, None, slice_get, slice_index_or}
use Rattle.c_syntax_written.specs.declared.int_type.IntType.{IntType}
use Rattle.block_mem.specs.declared.types.Scalar.{Scalar}
use Rattle.block_mem.specs.declared.types.Scalar.TheVariants as scalars
use Rattle.block_mem.specs.declared.types.Value.{Value}
use Rattle.c_values.specs.Places.{place_of}
use Rattle.ext_int.specs.declared.Ext.{Ext}
use Rattle.ext_int.specs.declared.Ext.TheVariants.{Low, High}
use Rattle.num_api.specs.declared.message.Range.{Range}
use Rattle.num_api.specs.Ranges.{InRange, IsPoint, NoWider, all_numbers}
use Rattle.num_api.specs.Spans.{range_of}
use Rattle.csharp.specs.States.{State}
use Rattle.plain_runs.specs.States.{Plain}
use Rattle.mem_temps.specs.Values.{number_of, IsNoObject}
use Rattle.mem_temps.specs.Operators.{LiesIn}

-- of a temporary that is not there nothing is known
abbrev pub range_at : List Range → ℕ → Range
range_at ranges d = slice_index_or ranges d all_numbers

-- the value of each temporary lies in its range
abbrev pub AreIn : List Range → State → Type 0
AreIn ranges s = (d : ℕ) (v : Value) → slice_get s.temps d ≡ Some v → InRange (range_at ranges d) (number_of v)

-- each temporary is an integer or null, its range is the point of its number, and no object lives
pub record AreAll (ranges : List Range) (s : State) : Type 0 where
  pub temps : (d : ℕ) (v : Value) → slice_get s.temps d ≡ Some v → IsPoint (range_at ranges d) (number_of v) × IsNoObject v
  pub places : (x : ℕ) → place_of s.memory x ≡ None

-- the range of each integer temporary lies in its type
abbrev pub AreInside : List Scalar → List Range → Type 0
AreInside types ranges = (d : ℕ) (t : IntType) → slice_get types d ≡ Some (scalars.Int t) → LiesIn t (range_at ranges d)

-- and in what a plain state has of it
abbrev pub AreUnder : List Scalar → List Range → Plain → Type 0
AreUnder types ranges p = (d : ℕ) (t : IntType) → slice_get types d ≡ Some (scalars.Int t) → NoWider (range_at ranges d) (range_of (p.temps d))

-- ---- whether anything is known

abbrev pub is_all : Range → Bool
is_all r = are_all r.lo r.hi where
  are_all : Ext → Ext → Bool
  are_all Low High = true
  are_all lo hi = false

-- some range is not that of all numbers
abbrev pub knows : List Range → Bool
knows [] = false
knows (r ∷ rs) = not (is_all r) || knows rs
