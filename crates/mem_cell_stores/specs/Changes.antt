-- What a set knows of objects once bytes are stored, and what is known of a value that is stored.
use Rattle.std.specs.Prelude.{ℕ, ℤ, ◌≡◌, ◌⊎◌, ◌+◌, ◌<◌, ◌≤◌, false, List, None, Some, slice_get}
use Rattle.c_syntax.specs.Types.{ObjectTree}
use Rattle.pointsets.specs.Targets.{BaseSet}
use Rattle.block_mem.specs.declared.types.Pointer.{Pointer}
use Rattle.block_mem.specs.declared.types.Scalar.{Scalar}
use Rattle.block_mem.specs.declared.types.Value.{Value}
use Rattle.block_mem.specs.declared.types.Value.TheVariants as values
use Rattle.block_mem.specs.Blocks.{place, wrong_access}
use Rattle.block_mem.specs.Bytes.{IsOf, bytes_of, size_of as scalar_size}
use Rattle.c_values.specs.Places.{ObjectMemory, place_of}
use Rattle.csharp.specs.Trees.{CsExprTree}
use Rattle.csharp.specs.States.{State, value_of}
use Rattle.csharp.specs.Actions as acts
use Rattle.mem_cell_bytes.specs.declared.entry.Entry.{Entry}
use Rattle.mem_cell_bytes.specs.declared.entry.FillByte.{FillByte}
use Rattle.mem_cell_bytes.specs.Cells.{Meets, Points, number_of, size_of}
use Rattle.mem_cell_bytes.specs.Contents.{Contents, nothing}
use Rattle.mem_cell_bytes.specs.Stands.{Has, IsInStretch}
use Rattle.mem_cell_bytes.specs.Stores.{AreBeside, AreBytesLeft}
use Rattle.mem_cell_exprs.specs.Known.{StandsFor}
use Rattle.mem_cell_exprs.specs.declared.known.Known.{Known}
use Rattle.mem_cell_grid.specs.Lefts.{AreStored}
use Rattle.mem_cell_loads.specs.declared.content.Content.{Content}
use Rattle.mem_cell_loads.specs.Reads.{IsContent}
use Rattle.mem_cell_stores.specs.declared.spots.Spot.{Spot}

-- ---- what is known of objects

-- the object has one cell more, and what it knew beside it; of the others it is known what was
pub record IsCellPut (grid : List Contents) (o : ℕ) (cell : Entry) (new : List Contents) : Type 0 where
  pub here : (c : Contents) → slice_get new o ≡ Some c
      → (old : Contents) × (slice_get grid o ≡ Some old) × AreStored old.cells cell c.cells × AreBytesLeft old.stretches cell.offset (size_of cell) c.stretches
  pub others : (q : ℕ) → (q ≡ o → ⊥) → slice_get new q ≡ slice_get grid q

-- cells and bytes of one object are those that were known, and beside n bytes from `at` on where the object is one of these
pub record AreKept (os : List ℕ) (q at n : ℕ) (old new : Contents) : Type 0 where
  pub cells : (e : Entry) → Has new.cells e → Has old.cells e × (Has os q → AreBeside e.offset (size_of e) at n)
  pub bytes : (i : ℕ) (x : FillByte) → IsInStretch new.stretches i x → IsInStretch old.stretches i x × (Has os q → (i < at) ⊎ (at + n ≤ i))

-- so it is of each object
abbrev pub AreForgotten : List ℕ → ℕ → ℕ → List Contents → List Contents → Type 0
AreForgotten os at n grid new = (q : ℕ) (c : Contents) → slice_get new q ≡ Some c → (old : Contents) × (slice_get grid q ≡ Some old) × AreKept os q at n old c

-- of no object anything is known
abbrev pub AreNothing : List Contents → Type 0
AreNothing grid = (q : ℕ) (c : Contents) → slice_get grid q ≡ Some c → c ≡ nothing

-- ---- what is stored

-- in each state of the set the value of an expression, where it is of the type, is what is known of it
abbrev pub IsContentOf : {D : Type 0} → (D → List ℤ → Type 0) → Known D → CsExprTree → Scalar → Content → Type 0
IsContentOf admits k e ty l = (objects : List ObjectTree) (s : State) (st : StandsFor admits objects k s) (u : Value)
    → value_of e s ≡ Some u → IsOf ty u → IsContent s st.v u l

-- the cell has as many bytes as a value of the type, from `at` on, and they meet it once a value is stored of which this is known
pub record IsCellFor (at : ℕ) (ty : Scalar) (l : Content) (e : Entry) : Type 0 where
  pub offset : e.offset ≡ at
  pub size : size_of e ≡ scalar_size ty
  pub meets : (m : ObjectMemory) (u : Value) → IsOf ty u → ((set : BaseSet) → l.set ≡ Some set → Points m set u) → Meets m e (bytes_of u) (number_of u)

-- ---- the step

-- each pointer that the expression may be and through which so many bytes may be accessed leads to this place
abbrev pub LeadsTo : {D : Type 0} → (D → List ℤ → Type 0) → Known D → CsExprTree → ℕ → Spot → Type 0
LeadsTo admits k e size spot = (objects : List ObjectTree) (s : State) → StandsFor admits objects k s → (p : Pointer) → value_of e s ≡ Some (values.Ptr p)
    → wrong_access s.memory.blocks p size size false ≡ None → (place_of s.memory spot.object ≡ Some p.block) × (place p ≡ spot.at)

-- or to one of these objects, where n bytes from it on are among so many from one on
abbrev pub IsAmong : {D : Type 0} → (D → List ℤ → Type 0) → Known D → CsExprTree → ℕ → ℕ → List ℕ → ℕ → ℕ → Type 0
IsAmong admits k e n align os from count = (objects : List ObjectTree) (s : State) → StandsFor admits objects k s → (p : Pointer) → value_of e s ≡ Some (values.Ptr p)
    → wrong_access s.memory.blocks p n align false ≡ None
    → (o : ℕ) × Has os o × (place_of s.memory o ≡ Some p.block) × (from ≤ place p) × (place p + n ≤ from + count)

-- for each state of the set, and the state behind a store in it of a value of the type, the other set stands for that one
abbrev pub StoresFor : {D : Type 0} → (D → List ℤ → Type 0) → Known D → Scalar → CsExprTree → CsExprTree → Known D → Type 0
StoresFor admits k ty e f new = (objects : List ObjectTree) (s t : State) → StandsFor admits objects k s → ((u : Value) → value_of f s ≡ Some u → IsOf ty u)
    → acts.store ty e f s ≡ Some t → StandsFor admits objects new t

-- so it is of a copy of so many bytes
abbrev pub CopiesFor : {D : Type 0} → (D → List ℤ → Type 0) → Known D → ℕ → CsExprTree → CsExprTree → Known D → Type 0
CopiesFor admits k n to from new = (objects : List ObjectTree) (s t : State) → StandsFor admits objects k s → acts.copy_bytes n to from s ≡ Some t
    → StandsFor admits objects new t
