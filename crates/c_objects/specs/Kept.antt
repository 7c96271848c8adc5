-- What every memory of objects keeps.
use Rattle.std.specs.Prelude.{◌≡◌, ◌<◌, ◌≤◌, ◌^◌, ℕ, true, List, length, Some, IfSome, IsSomeAnd, slice_get}
use Rattle.c_syntax.specs.Types.{ObjectTree}
use Rattle.block_mem.specs.declared.types.Value.{Value}
use Rattle.block_mem.specs.declared.types.Value.TheVariants as values
use Rattle.block_mem.specs.Blocks.{block_at}
use Rattle.block_mem.specs.Proper.{AreProper}
use Rattle.block_mem.specs.Whole.{AreWhole}
use Rattle.c_values.specs.Memory.{Fits}
use Rattle.c_values.specs.Places.{ObjectMemory, owner_of, place_of}

-- the block was made, lives, and is this object's
pub record IsPlaced (m : ObjectMemory) (x b : ℕ) : Type 0 where
  pub made : b < length m.blocks
  pub live : (block_at m.blocks b).live ≡ true
  pub owner : owner_of m b ≡ x

-- each block has its object's size and mark, and is that object's place while it lives; bytes are proper, and pointers whole
pub record IsKept (objects : List ObjectTree) (m : ObjectMemory) : Type 0 where
  pub owned : length m.owners ≡ length m.blocks
  pub counted : length m.places ≡ length objects
  pub fits : (b : ℕ) → b < length m.blocks → Fits objects m b
  pub placed : (x b : ℕ) → place_of m x ≡ Some b → IsPlaced m x b
  pub lives : (b : ℕ) → b < length m.blocks → (block_at m.blocks b).live ≡ true → place_of m (owner_of m b) ≡ Some b
  pub proper : AreProper m.blocks
  pub whole : AreWhole m.blocks

-- the same, but that pointers may be in parts
pub record KeepsObjects (objects : List ObjectTree) (m : ObjectMemory) : Type 0 where
  pub owned : length m.owners ≡ length m.blocks
  pub counted : length m.places ≡ length objects
  pub fits : (b : ℕ) → b < length m.blocks → Fits objects m b
  pub placed : (x b : ℕ) → place_of m x ≡ Some b → IsPlaced m x b
  pub lives : (b : ℕ) → b < length m.blocks → (block_at m.blocks b).live ≡ true → place_of m (owner_of m b) ≡ Some b
  pub proper : AreProper m.blocks

-- no object has more than 2 to the 62 bytes, so that each offset that a check allows fits a pointer
abbrev pub AreSmall : List ObjectTree → Type 0
AreSmall objects = (x : ℕ) → IfSome (slice_get objects x) (λ object. object.size ≤ 2 ^ 62)

-- each block has an owner, and each place is a block that was made
pub record IsWellFormed (m : ObjectMemory) : Type 0 where
  pub owned : length m.owners ≡ length m.blocks
  pub placed : (x b : ℕ) → place_of m x ≡ Some b → b < length m.blocks

-- each block has its object's size and mark
abbrev pub AllFit : List ObjectTree → ObjectMemory → Type 0
AllFit objects m = (b : ℕ) → b < length m.blocks → Fits objects m b

-- the block of a value that is a pointer fits its object
abbrev pub FitsAt : List ObjectTree → ObjectMemory → Value → Type 0
FitsAt objects m (values.Int t n) = Unit {0}
FitsAt objects m (values.Ptr p) = Fits objects m p.block
FitsAt objects m values.Null = Unit {0}

-- the object has a block that lives, and a pointer may have the offset of each of its bytes
abbrev pub IsFillable : ObjectMemory → ℕ → Type 0
IsFillable m x = IsSomeAnd (place_of m x) (λ b. ((block_at m.blocks b).live ≡ true) × (length (block_at m.blocks b).bytes < 2 ^ 63))
