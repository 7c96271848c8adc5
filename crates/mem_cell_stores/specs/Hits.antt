-- What a set knows of objects once bytes are stored at one of several places.
use Rattle.std.specs.Prelude.{ℕ, ℤ, ◌≡◌, ◌⊎◌, ◌+◌, ◌*◌, ◌<◌, ◌≤◌, List, Some, slice_get}
use Rattle.c_syntax.specs.Types.{ObjectTree}
use Rattle.num_api.specs.declared.message.Range.{Range}
use Rattle.num_api.specs.Ranges.{InRange}
use Rattle.block_mem.specs.declared.types.Scalar.{Scalar}
use Rattle.block_mem.specs.declared.types.Value.{Value}
use Rattle.block_mem.specs.Bytes.{IsOf}
use Rattle.csharp.specs.Trees.{CsExprTree}
use Rattle.csharp.specs.States.{State, value_of}
use Rattle.mem_cell_bytes.specs.declared.entry.Entry.{Entry}
use Rattle.mem_cell_bytes.specs.declared.entry.FillByte.{FillByte}
use Rattle.mem_cell_bytes.specs.Cells.{number_of, size_of, var_of}
use Rattle.mem_cell_bytes.specs.Contents.{Contents}
use Rattle.mem_cell_bytes.specs.Joins.{IsWider}
use Rattle.mem_cell_bytes.specs.Stands.{Has, IsInStretch}
use Rattle.mem_cell_bytes.specs.Stores.{AreBeside}
use Rattle.mem_cell_exprs.specs.Known.{StandsFor}
use Rattle.mem_cell_exprs.specs.declared.known.Known.{Known}
use Rattle.mem_cell_loads.specs.declared.content.Content.{Content}
use Rattle.mem_cell_stores.specs.Changes.{IsCellFor}
use Rattle.mem_cell_stores.specs.declared.weakly.Bytes.{Bytes}

-- a cell allows what one that was there allows, and each value of which this is known; it stands at a multiple of so many bytes, and its variable
-- is in the list
pub record IsHitCell (q step : ℕ) (ty : Scalar) (l : Content) (ys : List ℕ) (cells : List Entry) (e : Entry) : Type 0 where
  pub old : Entry
  pub was : Has cells old
  pub wider : IsWider old e
  pub fits : IsCellFor e.offset ty l e
  pub index : ℕ
  pub place : e.offset ≡ index * step
  pub small : e.offset < 65536
  pub variable : Has ys (var_of q e)

-- each cell was there, beside the bytes, or may be hit
abbrev pub AreWeakCells : ℕ → Bytes → Scalar → Content → List ℕ → List Entry → List Entry → Type 0
AreWeakCells o b ty l ys cells new = (e : Entry) → Has new e → (Has cells e × AreBeside e.offset (size_of e) b.at b.count) ⊎ IsHitCell o b.step ty l ys cells e

-- what is known of one object: where it is one of these, cells and bytes beside those, and cells that may be hit
pub record AreWeak (os : List ℕ) (q : ℕ) (b : Bytes) (ty : Scalar) (l : Content) (ys : List ℕ) (old new : Contents) : Type 0 where
  pub cells : (e : Entry) → Has new.cells e → (Has old.cells e × (Has os q → AreBeside e.offset (size_of e) b.at b.count)) ⊎ IsHitCell q b.step ty l ys old.cells e
  pub bytes : (i : ℕ) (x : FillByte) → IsInStretch new.stretches i x → IsInStretch old.stretches i x × (Has os q → (i < b.at) ⊎ (b.at + b.count ≤ i))

-- so it is of each object
abbrev pub AreWeakened : List ℕ → Bytes → Scalar → Content → List ℕ → List Contents → List Contents → Type 0
AreWeakened os b ty l ys grid new = (q : ℕ) (c : Contents) → slice_get new q ≡ Some c → (old : Contents) × (slice_get grid q ≡ Some old) × AreWeak os q b ty l ys old c

-- each variable of a list is in another
abbrev pub AreAmong : List ℕ → List ℕ → Type 0
AreAmong ys zs = (y : ℕ) → Has ys y → Has zs y

-- in each state of the set the value of an expression, where it is of the type, has a number of the range
abbrev pub IsRangeOf : {D : Type 0} → (D → List ℤ → Type 0) → Known D → CsExprTree → Scalar → Range → Type 0
IsRangeOf admits k e ty r = (objects : List ObjectTree) (s : State) → StandsFor admits objects k s → (u : Value)
    → value_of e s ≡ Some u → IsOf ty u → InRange r (number_of u)
