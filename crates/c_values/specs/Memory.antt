-- Blocks that fit their objects, and what memory says of accesses to them.
use Rattle.std.specs.Prelude.{◌≡◌, ℕ, List, length, Option, Some, None, Result, Ok, Err, slice_get}
use Rattle.c_syntax.specs.declared.alarm.Spot.{Spot}
use Rattle.c_syntax.specs.declared.alarm.WrongKind.{WrongKind}
use Rattle.c_syntax.specs.declared.alarm.WrongKind.TheVariants as kinds
use Rattle.c_syntax.specs.Types.{ObjectTree}
use Rattle.c_syntax.specs.Operand.{Operand, Point, Mark}
use Rattle.c_syntax.specs.Operand as operands
use Rattle.block_mem.specs.declared.types.Value.{Value}
use Rattle.block_mem.specs.Blocks.{block_at}
use Rattle.c_values.specs.Places.{ObjectMemory, owner_of}
use Rattle.c_values.specs.Looks.{Judged, Passes, FailsAs, Outcome, Gives, GoesWrong}

-- a block has the size and the mark of its object, which is one of the program's
pub record Fits (objects : List ObjectTree) (m : ObjectMemory) (b : ℕ) : Type 0 where
  pub object : ObjectTree
  pub is : slice_get objects (owner_of m b) ≡ Some object
  pub size : object.size ≡ length (block_at m.blocks b).bytes
  pub mark : object.read_only ≡ (block_at m.blocks b).read_only

-- nothing is wrong, or this is, with this operand
abbrev pub found : Operand → Option WrongKind → Judged
found x None = Passes
found x (Some kind) = FailsAs kind x

-- at what a load is wrong: at its bytes, or at the spot from which it reads
abbrev load_operand : Spot → WrongKind → Operand
load_operand s kinds.Indeterminate = Mark operands.Undef
load_operand s kinds.Fragment = Mark operands.Broken
load_operand s kind = Point s

-- what a load from a spot comes to
abbrev pub load_outcome : Spot → Result Value WrongKind → Outcome
load_outcome s (Ok v) = Gives v
load_outcome s (Err kind) = GoesWrong kind (load_operand s kind)
