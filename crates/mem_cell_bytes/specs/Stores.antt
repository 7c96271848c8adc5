-- What is left of what a set says when bytes are stored.
use Rattle.std.specs.Prelude.{ℕ, ℤ, ◌≡◌, ◌⊎◌, ◌+◌, ◌<◌, ◌≤◌, List, length}
use Rattle.ext_int.specs.Valuation.{value_at}
use Rattle.num_api.specs.Valuation.{SetTo}
use Rattle.pointsets.specs.Targets.{BaseSet}
use Rattle.block_mem.specs.declared.types.Byte.{Byte}
use Rattle.c_values.specs.Places.{ObjectMemory}
use Rattle.mem_cell_bytes.specs.declared.entry.Entry.{Entry}
use Rattle.mem_cell_bytes.specs.declared.entry.FillByte.{FillByte}
use Rattle.mem_cell_bytes.specs.declared.entry.Stretch.{Stretch}
use Rattle.mem_cell_bytes.specs.Cells.{size_of, var_of, Meets}
use Rattle.mem_cell_bytes.specs.Stands.{Claims, Has, IsInStretch}
use Rattle.mem_cell_bytes.specs.Joins.{IsWider}

-- k bytes from one on and n bytes from another on have none in common
abbrev pub AreBeside : ℕ → ℕ → ℕ → ℕ → Type 0
AreBeside off k at n = (off + k ≤ at) ⊎ (at + n ≤ off)

-- the bytes of a cell of object q and n bytes of object o from `at` on have none in common
abbrev pub IsFar : ℕ → Entry → ℕ → ℕ → ℕ → Type 0
IsFar q e o at n = q ≡ o → AreBeside e.offset (size_of e) at n

-- byte i of object q is none of n bytes of object o from `at` on
abbrev pub IsOut : ℕ → ℕ → ℕ → ℕ → ℕ → Type 0
IsOut q i o at n = q ≡ o → (i < at) ⊎ (at + n ≤ i)

-- a cell was there, or one that allows less, beside the bytes that were stored, and its number is the same
pub record IsLeftCell (k : Claims) (o at n : ℕ) (v w : List ℤ) (q : ℕ) (e : Entry) : Type 0 where
  pub old : Entry
  pub was : k.cell q old
  pub wider : IsWider old e
  pub far : IsFar q e o at n
  pub same : value_at w (var_of q e) ≡ value_at v (var_of q e)

-- a cell is the bytes that were stored, and they meet it in the memory after
pub record IsHit (o at : ℕ) (new : List Byte) (w : List ℤ) (m : ObjectMemory) (q : ℕ) (e : Entry) : Type 0 where
  pub object : q ≡ o
  pub offset : e.offset ≡ at
  pub size : size_of e ≡ length new
  pub meets : Meets m e new (value_at w (var_of q e))

-- what a set says after bytes were stored at a place of an object: of pointers what it said; cells that are beside the bytes, or are the bytes; and single bytes
-- beside them
pub record AreAfter (m : ObjectMemory) (k k' : Claims) (o at : ℕ) (new : List Byte) (v w : List ℤ) (m' : ObjectMemory) : Type 0 where
  pub pointer : (d : ℕ) (set : BaseSet) → k'.pointer d set → k.pointer d set
  pub cell : (q : ℕ) (e : Entry) → k'.cell q e → IsLeftCell k o at (length new) v w q e ⊎ IsHit o at new w m' q e
  pub byte : (q i : ℕ) (x : FillByte) → k'.byte q i x → k.byte q i x × IsOut q i o at (length new)

-- a valuation is as it was, or one of these variables has the number x in it
abbrev pub IsChoice : List ℕ → ℤ → List ℤ → List ℤ → Type 0
IsChoice ys x v w = (w ≡ v) ⊎ ((y : ℕ) × Has ys y × SetTo y x v w)

-- ---- lists of one object

-- each cell is one of those that were there, beside the bytes
abbrev pub AreLeft : List Entry → ℕ → ℕ → List Entry → Type 0
AreLeft cells at n left = (e : Entry) → Has left e → Has cells e × AreBeside e.offset (size_of e) at n

-- each byte that is in a stretch was in one, beside those bytes
abbrev pub AreBytesLeft : List Stretch → ℕ → ℕ → List Stretch → Type 0
AreBytesLeft stretches at n left = (i : ℕ) (x : FillByte) → IsInStretch left i x → IsInStretch stretches i x × ((i < at) ⊎ (at + n ≤ i))
