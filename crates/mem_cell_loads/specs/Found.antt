-- What is known of bytes of an object, and what may be loaded from them.
use Rattle.std.specs.Prelude.{ℕ, ℤ, ◌≡◌, ◌+◌, ◌<◌, ◌≤◌, ◌||◌, if◌then◌else◌, List, Some, Ok, slice_get}
use Rattle.c_syntax_written.specs.declared.int_type.IntType.{IntType}
use Rattle.c_syntax_written.specs.declared.int_type.IntType.TheVariants as ints
use Rattle.c_syntax.specs.Admission.{IsMarkIn}
use Rattle.c_syntax.specs.Types.{ObjectTree}
use Rattle.num_api.specs.declared.message.Range.{Range}
use Rattle.num_api.specs.Ranges.{InRange}
use Rattle.pointsets.specs.declared.Base.TheVariants.{Null}
use Rattle.pointsets.specs.Targets.{BaseSet, with_base}
use Rattle.block_mem.specs.declared.types.Byte.{Byte}
use Rattle.block_mem.specs.declared.types.Scalar.{Scalar}
use Rattle.block_mem.specs.declared.types.Scalar.TheVariants as scalars
use Rattle.block_mem.specs.declared.types.Value.{Value}
use Rattle.block_mem.specs.Blocks.{block_at, loaded}
use Rattle.block_mem.specs.Bytes.{mark_of, size_of as scalar_size}
use Rattle.block_mem.specs.Pieces.{get_bytes}
use Rattle.c_values.specs.Places.{ObjectMemory, place_of}
use Rattle.machine_nums.specs.MExprs.{MExprTree}
use Rattle.machine_nums.specs.Machine.{machine_value}
use Rattle.csharp.specs.States.{State}
use Rattle.mem_cell_bytes.specs.declared.entry.Entry.{Entry}
use Rattle.mem_cell_bytes.specs.declared.entry.FillByte.{FillByte}
use Rattle.mem_cell_bytes.specs.declared.entry.Stretch.{Stretch}
use Rattle.mem_cell_bytes.specs.Cells.{Points, number_of, size_of}
use Rattle.mem_cell_bytes.specs.Contents.{Contents}
use Rattle.mem_cell_bytes.specs.Stands.{Has, IsInStretch}
use Rattle.mem_cell_exprs.specs.Known.{StandsFor}
use Rattle.mem_cell_exprs.specs.declared.known.Known.{Known}
use Rattle.mem_cell_loads.specs.declared.found.Found.{Found}
use Rattle.mem_cell_loads.specs.declared.found.Found.TheVariants as founds
use Rattle.mem_cell_loads.specs.declared.reading.Marks.{Marks}
use Rattle.mem_cell_loads.specs.declared.reading.Reading.{Reading}

-- a cell of the list has n bytes from `at` on
pub record HasBytes (cells : List Entry) (e : Entry) (at n : ℕ) : Type 0 where
  pub has : Has cells e
  pub low : e.offset ≤ at
  pub high : at + n ≤ e.offset + size_of e
  pub small : e.offset < 65536

-- each of n bytes from `at` on is in a stretch of this byte
abbrev pub AreFilled : List Stretch → ℕ → ℕ → FillByte → Type 0
AreFilled stretches at n x = (q : ℕ) → at ≤ q → q < at + n → IsInStretch stretches q x

-- the object is there, and a cell has n bytes of it from `at` on, or they are all one byte
abbrev pub IsFound : List Contents → ℕ → ℕ → ℕ → Found → Type 0
IsFound grid o at n (founds.Cell e) = (held : Contents) × (slice_get grid o ≡ Some held) × HasBytes held.cells e at n
IsFound grid o at n (founds.Fill x) = (held : Contents) × (slice_get grid o ≡ Some held) × AreFilled held.stretches at n x
IsFound grid o at n founds.Nothing = Unit {0}

-- ---- what may be loaded

-- what a pointer may point to that is read from a cell: null is the number 0
abbrev pub loaded_targets : Entry → BaseSet
loaded_targets e = if e.value then with_base e.targets Null else e.targets

-- the type of the number of a value: a pointer's is its offset
abbrev pub number_type : Scalar → IntType
number_type (scalars.Int t) = t
number_type scalars.Pointer = ints.Long

-- n bytes of a block from `at` on
abbrev pub bytes_from : ObjectMemory → ℕ → ℕ → ℕ → List Byte
bytes_from m b at n = get_bytes (block_at m.blocks b).bytes at n

-- in each state of the set in which the object lives, a value of the type that its bytes from `at` on hold has the number of the numbers
abbrev pub IsNumberAt : {D : Type 0} → (D → List ℤ → Type 0) → Known D → ℕ → ℕ → Scalar → MExprTree → Type 0
IsNumberAt admits k o at ty m = (objects : List ObjectTree) (s : State) (st : StandsFor admits objects k s) (b : ℕ) (u : Value)
    → place_of s.memory o ≡ Some b → loaded ty (bytes_from s.memory b at (scalar_size ty)) ≡ Ok u → machine_value st.v m ≡ Some (number_of u)

-- or one of a range
abbrev pub IsRangeAt : {D : Type 0} → (D → List ℤ → Type 0) → Known D → ℕ → ℕ → Scalar → Range → Type 0
IsRangeAt admits k o at ty r = (objects : List ObjectTree) (s : State) → StandsFor admits objects k s → (b : ℕ) (u : Value)
    → place_of s.memory o ≡ Some b → loaded ty (bytes_from s.memory b at (scalar_size ty)) ≡ Ok u → InRange r (number_of u)

-- and it points to what the set has
abbrev pub IsSetAt : {D : Type 0} → (D → List ℤ → Type 0) → Known D → ℕ → ℕ → Scalar → BaseSet → Type 0
IsSetAt admits k o at ty set = (objects : List ObjectTree) (s : State) → StandsFor admits objects k s → (b : ℕ) (u : Value)
    → place_of s.memory o ≡ Some b → loaded ty (bytes_from s.memory b at (scalar_size ty)) ≡ Ok u → Points s.memory set u

abbrev pub HasMark : Marks → Scalar → List Byte → Type 0
HasMark marks ty bs = IsMarkIn marks.undef marks.value marks.broken (mark_of ty bs)

-- and the bytes have one of these marks
abbrev pub AreMarksAt : {D : Type 0} → (D → List ℤ → Type 0) → Known D → ℕ → ℕ → Scalar → Marks → Type 0
AreMarksAt admits k o at ty marks = (objects : List ObjectTree) (s : State) → StandsFor admits objects k s → (b : ℕ)
    → place_of s.memory o ≡ Some b → HasMark marks ty (bytes_from s.memory b at (scalar_size ty))

-- ---- readings

-- bytes have one of the marks of a reading, and their value has a number of its range and points to what its set has, where it has one
pub record Allows (m : ObjectMemory) (ty : Scalar) (bs : List Byte) (r : Reading) : Type 0 where
  pub mark : HasMark r.marks ty bs
  pub number : (u : Value) → loaded ty bs ≡ Ok u → InRange r.range (number_of u)
  pub points : (u : Value) (set : BaseSet) → r.set ≡ Some set → loaded ty bs ≡ Ok u → Points m set u

-- marks that one of two has
pub record AreEither (a b c : Marks) : Type 0 where
  pub undef : c.undef ≡ (a.undef || b.undef)
  pub value : c.value ≡ (a.value || b.value)
  pub broken : c.broken ≡ (a.broken || b.broken)

-- bytes that one reading allows the other allows too
abbrev pub AllowsAll : Reading → Reading → Type 0
AllowsAll r all = (m : ObjectMemory) (ty : Scalar) (bs : List Byte) → Allows m ty bs r → Allows m ty bs all

-- so it is in each state of the set in which the object lives
abbrev pub IsReadingAt : {D : Type 0} → (D → List ℤ → Type 0) → Known D → ℕ → ℕ → Scalar → Reading → Type 0
IsReadingAt admits k o at ty r = (objects : List ObjectTree) (s : State) → StandsFor admits objects k s → (b : ℕ)
    → place_of s.memory o ≡ Some b → Allows s.memory ty (bytes_from s.memory b at (scalar_size ty)) r
