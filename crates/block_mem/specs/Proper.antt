-- Bytes and values that a memory may hold.
use Rattle.std.specs.Prelude.{ℕ, ◌<◌, List, length, slice_index_or}
use Rattle.block_mem.specs.declared.types.Byte.{Byte}
use Rattle.block_mem.specs.declared.types.Byte.TheVariants.{Undef, Num, Frag}
use Rattle.block_mem.specs.declared.types.Value.{Value}
use Rattle.block_mem.specs.declared.types.Value.TheVariants as values
use Rattle.block_mem.specs.Block.{BlockView}
use Rattle.block_mem.specs.Blocks.{block_at}

-- a byte of a memory of so many blocks: a number has eight bits, and a piece is one of a pointer to a block that was made (C11 3.6, 6.2.6.1)
abbrev pub IsProper : ℕ → Byte → Type 0
IsProper made Undef = Unit {0}
IsProper made (Num n) = n < 256
IsProper made (Frag p k) = p.block < made

-- bytes of which each is proper
abbrev pub AreProperBytes : ℕ → List Byte → Type 0
AreProperBytes made bs = (q : ℕ) → IsProper made (slice_index_or bs q Undef)

-- each byte of each block is proper
abbrev pub AreProper : List BlockView → Type 0
AreProper m = (b : ℕ) → AreProperBytes (length m) (block_at m b).bytes

-- the block of a value that is a pointer is one of those that were made
abbrev pub IsMade : ℕ → Value → Type 0
IsMade made (values.Int t n) = Unit {0}
IsMade made (values.Ptr p) = p.block < made
IsMade made values.Null = Unit {0}
