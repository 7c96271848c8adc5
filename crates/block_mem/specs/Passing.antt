-- What an access that passes is.
use Rattle.std.specs.Prelude.{ℕ, pos, ◌≡◌, ◌+◌, ◌≤◌, Bool, true, List, length}
use Rattle.block_mem.specs.declared.types.Pointer.{Pointer}
use Rattle.block_mem.specs.Block.{BlockView, place_of, is_aligned}
use Rattle.block_mem.specs.Blocks.{block_at, place}

-- the n bytes from a pointer on are in a live block, at a place that is a multiple of the alignment (C11 6.5.3.2p4)
pub record IsPassing (m : List BlockView) (at : Pointer) (n align : ℕ) : Type 0 where
  pub live : (block_at m at.block).live ≡ true
  pub offset : at.offset ≡ pos (place at)
  pub inside : place at + n ≤ length (block_at m at.block).bytes
  pub aligned : is_aligned (place_of at.offset) align ≡ true
