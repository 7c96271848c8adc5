-- Values that are of their types, and what is known once objects begin to live.
use Rattle.std.specs.Prelude.{◌≡◌, ℕ, List, [], ◌∷◌, length, Some, slice_set}
use Rattle.c_syntax.specs.Types.{ObjectTree}
use Rattle.block_mem.specs.declared.types.Scalar.{Scalar}
use Rattle.block_mem.specs.declared.types.Value.{Value}
use Rattle.block_mem.specs.Bytes.{IsOf}
use Rattle.block_mem.specs.Proper.{IsMade}
use Rattle.c_objects.specs.Opening.{size_of}
use Rattle.csharp.specs.Trees.{CsExprTree}
use Rattle.csharp.specs.States.{State, value_of}
use Rattle.mem_cell_bytes.specs.declared.entry.FillByte.TheVariants as fills
use Rattle.mem_cell_bytes.specs.Contents.{Contents, contents}

-- the value of the expression, where it has one, is of the type, and of a block that was made
abbrev pub IsTypedIn : Scalar → CsExprTree → State → Type 0
IsTypedIn ty e s = (u : Value) → value_of e s ≡ Some u → IsOf ty u × IsMade (length s.memory.blocks) u

-- of so many bytes none has a value
abbrev pub all_blank : ℕ → Contents
all_blank size = contents [] (record { from = 0; to = size; byte = fills.Undef } ∷ [])

-- what is known once objects have begun to live in their order
abbrev pub begun : List ObjectTree → List Contents → List ℕ → List Contents
begun objects grid [] = grid
begun objects grid (x ∷ xs) = begun objects (slice_set grid x (all_blank (size_of objects x))) xs
