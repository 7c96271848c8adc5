-- Memory of objects, and where its pointers point.
use Rattle.std.specs.Prelude.{ℕ, ℤ, if◌then◌else◌, List, Option, None, Some, option_map, slice_index_or}
use Rattle.c_syntax.specs.declared.alarm.Spot.{Spot}
use Rattle.c_syntax.specs.declared.alarm.Spot.TheVariants as spots
use Rattle.c_syntax.specs.Operand.{Operand, Point}
use Rattle.block_mem.specs.declared.types.Pointer as pointers
use Rattle.block_mem.specs.declared.types.Value.{Value}
use Rattle.block_mem.specs.declared.types.Value.TheVariants as values
use Rattle.block_mem.specs.Block.{BlockView}
use Rattle.block_mem.specs.Blocks.{block_at}

-- the blocks, numbered as they were made; the object of each block; and the block of each object that is live, by the object's number
pub record ObjectMemory : Type 0 where
  pub blocks : List BlockView
  pub owners : List ℕ
  pub places : List (Option ℕ)

-- the block of an object that is live
abbrev pub place_of : ObjectMemory → ℕ → Option ℕ
place_of m x = slice_index_or m.places x None

-- the object whose block this is, live or dead
abbrev pub owner_of : ObjectMemory → ℕ → ℕ
owner_of m b = slice_index_or m.owners b 0

-- where an offset in a block is
abbrev spot_in : BlockView → ℕ → ℤ → Spot
spot_in b owner offset = if b.live then spots.At owner offset else spots.Dead

-- where a pointer to a block points
abbrev pub spot_at : ObjectMemory → pointers.Pointer → Spot
spot_at m p = spot_in (block_at m.blocks p.block) (owner_of m p.block) p.offset

-- where a pointer points; an integer points nowhere
abbrev pub spot : ObjectMemory → Value → Option Spot
spot m (values.Int t n) = None
spot m (values.Ptr p) = Some (spot_at m p)
spot m values.Null = Some spots.Null

-- a pointer as the operand of a check
abbrev pub point : ObjectMemory → Value → Option Operand
point m v = option_map Point (spot m v)
