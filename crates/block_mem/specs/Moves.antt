-- Copies of bytes from one place of memory to another.
use Rattle.std.specs.Prelude.{ℕ, ◌+◌, ◌<◌, ◌≤◌, List, length, slice_set, slice_index_or}
use Rattle.block_mem.specs.declared.moving.Transfer.{Transfer}
use Rattle.block_mem.specs.declared.types.Byte.TheVariants.{Undef}
use Rattle.block_mem.specs.Block.{BlockView}
use Rattle.block_mem.specs.Blocks.{block_at, with_bytes}
use Rattle.block_mem.specs.Pieces.{taken_byte, taken, put_bytes, stored}

-- both ranges are in blocks that were made
pub record IsWithin (m : List BlockView) (t : Transfer) : Type 0 where
  pub to_made : t.to_block < length m
  pub from_made : t.from_block < length m
  pub to_inside : t.to + t.count ≤ length (block_at m t.to_block).bytes
  pub from_inside : t.from + t.count ≤ length (block_at m t.from_block).bytes

-- memory with one byte put in: the one that a copy takes at this index
abbrev pub with_one : List BlockView → Transfer → ℕ → List BlockView
with_one m t i = with_bytes m t.to_block
    (slice_set (block_at m t.to_block).bytes (t.to + i)
    (taken_byte t.from t.count (t.from + i) (slice_index_or (block_at m t.from_block).bytes (t.from + i) Undef)))

-- memory with all bytes that a copy takes put in, and no pointer cut
abbrev pub moved : List BlockView → Transfer → List BlockView
moved m t = with_bytes m t.to_block (put_bytes (block_at m t.to_block).bytes t.to (taken (block_at m t.from_block).bytes t.from t.count))

-- memory after a copy
abbrev pub copied : List BlockView → Transfer → List BlockView
copied m t = with_bytes m t.to_block (stored (block_at m t.to_block).bytes t.to (taken (block_at m t.from_block).bytes t.from t.count))
