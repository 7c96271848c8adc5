-- Bytes of an object of which it is known what they may be.
use Rattle.std.specs.Prelude.{ℕ, ℤ, ◌≡◌, ◌<◌, ◌≤◌, IsTrue, List, Some, slice_get}
use Rattle.ext_int.specs.Valuation.{value_at}
use Rattle.block_mem.specs.declared.types.Byte.{Byte}
use Rattle.block_mem.specs.declared.types.Byte.TheVariants.{Frag, Num, Undef}
use Rattle.block_mem.specs.Blocks.{block_at}
use Rattle.c_values.specs.Places.{ObjectMemory}
use Rattle.mem_cell_bytes.specs.declared.entry.Entry.{Entry}
use Rattle.mem_cell_bytes.specs.declared.entry.FillByte.{FillByte}
use Rattle.mem_cell_bytes.specs.Contents.{Contents}
use Rattle.mem_cell_bytes.specs.Cells.{HasByte, Meets, bytes_in, var_of}
use Rattle.mem_cell_bytes.specs.Stands.{Has, IsInStretch}
use Rattle.mem_cell_shows.specs.declared.reaches.Reach.{Reach}

-- the byte is one of those that may be there: a number may be always
abbrev pub IsByteIn : Reach → Byte → Type 0
IsByteIn r Undef = IsTrue r.undef
IsByteIn r (Num n) = Unit {0}
IsByteIn r (Frag p k) = IsTrue r.piece

-- what is known of an object is so of its block
pub record HoldsOf (m : ObjectMemory) (b : ℕ) (v : List ℤ) (o : ℕ) (c : Contents) : Type 0 where
  pub cell : (e : Entry) → Has c.cells e → e.offset < 65536 → Meets m e (bytes_in m b e) (value_at v (var_of o e))
  pub byte : (q : ℕ) (x : FillByte) → IsInStretch c.stretches q x → HasByte m b q x

-- each byte from one on up to the end, where there is one, is one of those
abbrev pub EachIn : List Byte → ℕ → Reach → Type 0
EachIn bs from r = (q : ℕ) (x : Byte) → from ≤ q → q < r.end → slice_get bs q ≡ Some x → IsByteIn r x

abbrev pub IsReach : Contents → ℕ → Reach → Type 0
IsReach c from r = (m : ObjectMemory) (b : ℕ) (v : List ℤ) (o : ℕ) → HoldsOf m b v o c → EachIn (block_at m.blocks b).bytes from r
