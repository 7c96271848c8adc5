-- Offsets that are inside of objects.
use Rattle.std.specs.Prelude.{ℕ, ℤ, pos, ◌≡◌, ◌≤◌, ◌≤ℤ◌, ◌+ℤ◌, ◌||◌, true, false, List, Option, Some, IsSomeAnd, int_lt, slice_get}
use Rattle.c_syntax.specs.Types.{ObjectTree}
use Rattle.c_syntax.specs.Failing.{asked_of}
use Rattle.block_mem.specs.declared.types.Pointer.{Pointer}
use Rattle.block_mem.specs.declared.types.Value.{Value}
use Rattle.block_mem.specs.declared.types.Value.TheVariants as values
use Rattle.block_mem.specs.Blocks.{block_at}
use Rattle.c_values.specs.Places.{owner_of}
use Rattle.machine_nums.specs.MExprs.{MExprTree}
use Rattle.csharp.specs.Trees.{CsExprTree}
use Rattle.csharp.specs.States.{State, value_of}
use Rattle.mem_cell_bytes.specs.Cells.{number_of}
use Rattle.mem_cell_exprs.specs.Known.{HasOffset}
use Rattle.mem_cell_shows.specs.Addresses.{IsAddress}

-- the object has so many bytes from the offset on
abbrev pub IsRoom : List ObjectTree → ℕ → ℤ → ℕ → Type 0
IsRoom objects o d n = asked_of (slice_get objects o) (λ object. int_lt d (pos 0) || int_lt (pos object.size) (d +ℤ pos n)) ≡ false

-- a pointer into an object that lives has so many bytes of it before it
abbrev pub HasRoom : CsExprTree → ℕ → List ObjectTree → State → Type 0
HasRoom e n objects s = (u : Value) × (value_of e s ≡ Some u) × IsAddress u
    × ((p : Pointer) → u ≡ values.Ptr p → (block_at s.memory.blocks p.block).live ≡ true → IsRoom objects (owner_of s.memory p.block) p.offset n)

-- the object is there, and has at most so many bytes
abbrev pub IsSmallAt : List ObjectTree → ℕ → ℕ → Type 0
IsSmallAt objects o most = IsSomeAnd (slice_get objects o) (λ object. object.size ≤ most)

-- numbers that are the offset of a pointer lie from 0 up to another
abbrev pub IsOffsetTo : Option MExprTree → ℕ → List ℤ → Type 0
IsOffsetTo offset most v = (u : Value) × HasOffset v offset u × (pos 0 ≤ℤ number_of u) × (number_of u ≤ℤ pos most)
