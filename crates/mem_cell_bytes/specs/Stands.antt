-- When a set of states stands for a state of the language that is analysed.
use Rattle.std.specs.Prelude.{ℕ, ℤ, ◌≡◌, ◌<◌, ◌≤◌, List, length, slice_get, Option, Some}
use Rattle.c_syntax.specs.Types.{ObjectTree}
use Rattle.ext_int.specs.Valuation.{value_at}
use Rattle.pointsets.specs.Targets.{BaseSet}
use Rattle.block_mem.specs.declared.types.Scalar.{Scalar}
use Rattle.block_mem.specs.declared.types.Value.{Value}
use Rattle.block_mem.specs.Bytes.{IsOf}
use Rattle.block_mem.specs.Proper.{IsMade}
use Rattle.c_values.specs.Places.{place_of}
use Rattle.c_objects.specs.Kept.{KeepsObjects}
use Rattle.csharp.specs.States.{State}
use Rattle.mem_cell_bytes.specs.declared.entry.Entry.{Entry}
use Rattle.mem_cell_bytes.specs.declared.entry.FillByte.{FillByte}
use Rattle.mem_cell_bytes.specs.declared.entry.Stretch.{Stretch}
use Rattle.mem_cell_bytes.specs.Contents.{Contents}
use Rattle.mem_cell_bytes.specs.Cells.{HasByte, Meets, Points, bytes_in, number_of, temp_var, var_of}

-- an item stands in a list
abbrev pub Has : {X : Type 0} → List X → X → Type 0
Has xs x = (n : ℕ) × (slice_get xs n ≡ Some x)

-- what a set says beside numbers: what temporaries may point to, and of objects, by their numbers, cells and what single bytes are
pub record Claims : Type 1 where
  pub pointer : ℕ → BaseSet → Type 0
  pub cell : ℕ → Entry → Type 0
  pub byte : ℕ → ℕ → FillByte → Type 0

-- byte q is in a stretch of bytes x
pub record IsInStretch (stretches : List Stretch) (q : ℕ) (x : FillByte) : Type 0 where
  pub stretch : Stretch
  pub has : Has stretches stretch
  pub from : stretch.from ≤ q
  pub to : q < stretch.to
  pub is : stretch.byte ≡ x

-- those of lists: one place for each temporary, and one for each object. Cells at an offset of 2 to the 16 or more say nothing
abbrev pub claims : List (Option BaseSet) → List Contents → Claims
claims pointers objects = record {
  pointer = λ d set. slice_get pointers d ≡ Some (Some set);
  cell = λ o e. (c : Contents) × (slice_get objects o ≡ Some c) × Has c.cells e × (e.offset < 65536);
  byte = λ o q x. (c : Contents) × (slice_get objects o ≡ Some c) × IsInStretch c.stretches q x;
}

-- memory is that of the objects, and temporaries have values of their types; a valuation of the numbers has the number of each temporary; and all that is said
-- is so. A temporary or byte of which nothing is said may be anything
pub record Stands (objects : List ObjectTree) (types : List Scalar) (A : List ℤ → Type 0) (k : Claims) (s : State) : Type 0 where
  pub kept : KeepsObjects objects s.memory
  pub long : length s.temps ≡ length types
  pub typed : (d : ℕ) (ty : Scalar) (u : Value) → slice_get types d ≡ Some ty → slice_get s.temps d ≡ Some u → IsOf ty u × IsMade (length s.memory.blocks) u
  pub v : List ℤ
  pub admitted : A v
  pub number : (d : ℕ) (u : Value) → slice_get s.temps d ≡ Some u → value_at v (temp_var d) ≡ number_of u
  pub points : (d : ℕ) (set : BaseSet) (u : Value) → k.pointer d set → slice_get s.temps d ≡ Some u → Points s.memory set u
  pub cell : (o : ℕ) (e : Entry) (b : ℕ) → k.cell o e → place_of s.memory o ≡ Some b → Meets s.memory e (bytes_in s.memory b e) (value_at v (var_of o e))
  pub byte : (o q : ℕ) (x : FillByte) (b : ℕ) → k.byte o q x → place_of s.memory o ≡ Some b → HasByte s.memory b q x
