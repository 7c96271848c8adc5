-- Stored pointers that are whole, and what a write leaves of those that it overwrites in part, told by their contents. A pointer has the pieces 0 to 7; a
-- piece of any other number, which only a byte put in by itself can be, belongs to none, and no write or copy cuts it.
use Rattle.std.specs.Prelude.{ℕ, ◌≡◌, ◌+◌, ◌<◌, ◌≤◌, ◌⊎◌, List, slice_index_or}
use Rattle.block_mem.specs.declared.types.Byte.{Byte}
use Rattle.block_mem.specs.declared.types.Byte.TheVariants.{Undef, Frag}
use Rattle.block_mem.specs.declared.types.Pointer.{Pointer}
use Rattle.block_mem.specs.Block.{BlockView}
use Rattle.block_mem.specs.Blocks.{block_at, place}

-- place q holds piece k of the pointer
abbrev pub HoldsPiece : List Byte → ℕ → Pointer → ℕ → Type 0
HoldsPiece bs q p k = (k < 8) × (slice_index_or bs q Undef ≡ Frag p k)

-- the eight places from a start on hold the eight pieces of the pointer
abbrev pub HoldsAll : List Byte → ℕ → Pointer → Type 0
HoldsAll bs start p = (j : ℕ) → j < 8 → slice_index_or bs (start + j) Undef ≡ Frag p j

-- each piece stands among all eight of its pointer
pub record PointersAreWhole (bs : List Byte) : Type 0 where
  pub whole : (q k : ℕ) (p : Pointer) → HoldsPiece bs q p k → (start : ℕ) × (start + k ≡ q) × HoldsAll bs start p

-- place q is none of the n places from `at` on
abbrev pub IsOutside : ℕ → ℕ → ℕ → Type 0
IsOutside at n q = (q < at) ⊎ (at + n ≤ q)

-- one of the n places from `at` on holds a piece of the pointer that starts at the same place as the one whose piece k stands at q
pub record HasPart (bs : List Byte) (at n q : ℕ) (p : Pointer) (k : ℕ) : Type 0 where
  pub other : ℕ
  pub piece : ℕ
  pub from : at ≤ other
  pub to : other < at + n
  pub holds : HoldsPiece bs other p piece
  pub same_start : q + piece ≡ other + k

-- place q is outside of the n places from `at` on, and holds a piece of a stored pointer of which they hold another
pub record IsLost (bs : List Byte) (at n q : ℕ) : Type 0 where
  pub outside : IsOutside at n q
  pub pointer : Pointer
  pub piece : ℕ
  pub holds : HoldsPiece bs q pointer piece
  pub part : HasPart bs at n q pointer piece

-- what is left of place q after the n bytes at `at` were overwritten: what is lost is Undef, and the rest is as it was
pub record IsLeft (bs : List Byte) (at n q : ℕ) (left : Byte) : Type 0 where
  pub lost : IsLost bs at n q → left ≡ Undef
  pub kept : (IsLost bs at n q → ⊥) → left ≡ slice_index_or bs q Undef

-- all pointers of all blocks are whole
abbrev pub AreWhole : List BlockView → Type 0
AreWhole m = (b : ℕ) → PointersAreWhole (block_at m b).bytes

-- a write of n bytes where all pointers are whole leaves them whole, and of a pointer that it overwrites in part nothing
pub record KeepsWhole (old new : List BlockView) (at : Pointer) (n : ℕ) : Type 0 where
  pub whole : AreWhole old → AreWhole new
  pub left : AreWhole old → (q : ℕ) → IsOutside (place at) n q
      → IsLeft (block_at old at.block).bytes (place at) n q (slice_index_or (block_at new at.block).bytes q Undef)
