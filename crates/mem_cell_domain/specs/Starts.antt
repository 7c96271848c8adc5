-- What is known of objects at the start of a run.
use Rattle.std.specs.Prelude.{ℕ, ◌≡◌, ◌⊎◌, ◌<◌, ◌≤◌, List, [], All, length, slice_get, Some}
use Rattle.c_syntax.specs.declared.program.InitByte.{InitByte}
use Rattle.c_syntax.specs.declared.program.InitByte.TheVariants as inits
use Rattle.c_syntax.specs.declared.program.Initial.{Initial}
use Rattle.c_syntax.specs.Types.{ObjectTree}
use Rattle.block_mem.specs.Blocks.{block_at}
use Rattle.c_objects.specs.Opening.{size_of}
use Rattle.c_values.specs.Places.{ObjectMemory, place_of}
use Rattle.mem_cell_bytes.specs.declared.entry.FillByte.{FillByte}
use Rattle.mem_cell_bytes.specs.declared.entry.FillByte.TheVariants as fills
use Rattle.mem_cell_bytes.specs.declared.entry.Stretch.{Stretch}
use Rattle.mem_cell_bytes.specs.Cells.{HasByte}
use Rattle.mem_cell_bytes.specs.Contents.{Contents}
use Rattle.mem_cell_bytes.specs.Stands.{IsInStretch}
use Rattle.mem_cell_grid.specs.Lefts.{IsIn}

-- an initial byte is the number that is known of it
abbrev pub IsNumberAt : List InitByte → ℕ → FillByte → Type 0
IsNumberAt bytes i x = (n : ℕ) × (slice_get bytes i ≡ Some (inits.Num n)) × (x ≡ fills.Num n)

-- so is each byte of stretches
abbrev pub AreFrom : List InitByte → List Stretch → Type 0
AreFrom bytes stretches = (i : ℕ) (x : FillByte) → IsInStretch stretches i x → IsNumberAt bytes i x

-- and each byte of one more
pub record AreRunning (bytes : List InitByte) (stretches : List Stretch) (last : Stretch) : Type 0 where
  pub known : AreFrom bytes stretches
  pub run : (i : ℕ) (x : FillByte) → IsIn last i x → IsNumberAt bytes i x

-- no cell of an object is known, and each byte that is known of an object that has a block is there
pub record AreBytesOf (grid : List Contents) (m : ObjectMemory) : Type 0 where
  pub cells : (o : ℕ) (c : Contents) → slice_get grid o ≡ Some c → c.cells ≡ []
  pub bytes : (o i : ℕ) (x : FillByte) (c : Contents) (b : ℕ) → slice_get grid o ≡ Some c → IsInStretch c.stretches i x → place_of m o ≡ Some b → HasByte m b i x

-- each place is a block of its own that was made, with as many bytes as the object
pub record ArePlaces (objects : List ObjectTree) (m : ObjectMemory) : Type 0 where
  pub made : (x b : ℕ) → place_of m x ≡ Some b → b < length m.blocks
  pub own : (x y b : ℕ) → place_of m x ≡ Some b → place_of m y ≡ Some b → x ≡ y
  pub size : (x b : ℕ) → place_of m x ≡ Some b → length (block_at m.blocks b).bytes ≡ size_of objects x

-- an initial value has as many bytes as its object
abbrev pub AreLong : List ObjectTree → List Initial → Type 0
AreLong objects initials = All (λ i. length i.bytes ≡ size_of objects i.object) initials
