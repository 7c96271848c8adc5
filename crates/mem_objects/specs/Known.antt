-- When what is known of objects and copies holds in a state.
use Rattle.std.specs.Prelude.{ℕ, pos, ◌≡◌, true, List, length, Option, Some, Result, Ok, Err, slice_get}
use Rattle.c_syntax_written.specs.declared.int_type.IntType.{IntType}
use Rattle.c_syntax.specs.declared.alarm.WrongKind.{WrongKind}
use Rattle.c_syntax.specs.declared.alarm.WrongKind.TheVariants as kinds
use Rattle.c_syntax.specs.Types.{ObjectTree, Int}
use Rattle.block_mem.specs.declared.types.Pointer.{Pointer}
use Rattle.block_mem.specs.declared.types.Scalar.TheVariants as scalars
use Rattle.block_mem.specs.declared.types.Value.{Value}
use Rattle.block_mem.specs.declared.types.Value.TheVariants as values
use Rattle.block_mem.specs.Blocks.{bytes_at, loaded}
use Rattle.block_mem.specs.Bytes.{size_of}
use Rattle.c_values.specs.Places.{ObjectMemory, place_of}
use Rattle.num_api.specs.Ranges.{InRange}
use Rattle.csharp.specs.States.{State}
use Rattle.mem_api.specs.Owned.{IsOwned}
use Rattle.mem_objects.specs.declared.cells.KnownCell.{KnownCell}
use Rattle.mem_objects.specs.Cells.{cell_of}
use Rattle.mem_objects.specs.Copies.{copy_of}

-- each object may have a place, which is a block of its own that lives
pub record KeepsPlaces (objects : List ObjectTree) (m : ObjectMemory) : Type 0 where
  pub owned : IsOwned (length objects) m
  pub counted : length m.places ≡ length objects

-- ---- objects

abbrev pub start_of : ℕ → Pointer
start_of b = record { block = b; offset = pos 0 }

-- what a load of an integer finds in the bytes at the start of a block
abbrev pub found_at : ObjectMemory → ℕ → IntType → Result Value WrongKind
found_at m b t = loaded (scalars.Int t) (bytes_at m.blocks (start_of b) (size_of (scalars.Int t)))

-- a number in the range, or no value where that may be; never a part of a pointer
abbrev pub IsFound : KnownCell → Result Value WrongKind → Type 0
IsFound c (Ok (values.Int t n)) = (t ≡ c.ty) × InRange c.range n
IsFound c (Err kinds.Indeterminate) = c.may_be_undefined ≡ true
IsFound c r = ⊥

-- the object is an integer of the cell's type and mark that lives, and a load of it finds what the cell says
pub record HoldsCell (objects : List ObjectTree) (m : ObjectMemory) (x : ℕ) (c : KnownCell) : Type 0 where
  pub object : ObjectTree
  pub is : slice_get objects x ≡ Some object
  pub typed : object.ty ≡ Int c.ty
  pub mark : object.read_only ≡ c.read_only
  pub block : ℕ
  pub place : place_of m x ≡ Some block
  pub found : IsFound c (found_at m block c.ty)

abbrev pub AreHeld : List ObjectTree → List (Option KnownCell) → ObjectMemory → Type 0
AreHeld objects cells m = (x : ℕ) (c : KnownCell) → cell_of cells x ≡ Some c → HoldsCell objects m x c

-- ---- copies

-- the object is an integer that lives, and a load of it gives the value of the temporary
pub record IsCopy (objects : List ObjectTree) (s : State) (d x : ℕ) : Type 0 where
  pub object : ObjectTree
  pub is : slice_get objects x ≡ Some object
  pub ty : IntType
  pub typed : object.ty ≡ Int ty
  pub block : ℕ
  pub place : place_of s.memory x ≡ Some block
  pub value : Value
  pub temp : slice_get s.temps d ≡ Some value
  pub found : found_at s.memory block ty ≡ Ok value

abbrev pub AreCopies : List ObjectTree → List (Option ℕ) → State → Type 0
AreCopies objects copies s = (d x : ℕ) → copy_of copies d ≡ Some x → IsCopy objects s d x

-- ---- both

pub record AreKnown (objects : List ObjectTree) (cells : List (Option KnownCell)) (copies : List (Option ℕ)) (s : State) : Type 0 where
  pub places : KeepsPlaces objects s.memory
  pub cells_held : AreHeld objects cells s.memory
  pub copies_held : AreCopies objects copies s
