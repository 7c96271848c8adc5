-- What facts say of memory: the number and the spot of a cell, and the type as which its number is read.
use Rattle.std.specs.Prelude.{ℕ, ℤ, pos, ◌≡◌, true, IfSome, IsSomeAnd, slice_get, ◌-ℤ◌, ◌*◌, ◌-◌, ◌^◌, ◌==◌, ◌&&◌}
use Rattle.std.specs.Prelude.{nat_le, Bool, if◌then◌else◌, List, length, Option, None, option_and_then, option_map, Some, Result, Ok, Err}
use Rattle.c_syntax.specs.declared.alarm.Cell.{Cell}
use Rattle.c_syntax.specs.declared.alarm.Spot.{Spot}
use Rattle.c_syntax.specs.declared.alarm.WrongKind.{WrongKind}
use Rattle.c_syntax.specs.Types.{CTypeTree, Int, ObjectTree}
use Rattle.c_syntax.specs.Program.{StructDefTree}
use Rattle.c_syntax_written.specs.Integer.{is_signed}
use Rattle.c_layout.specs.Scalars.{EachScalar, IsScalarAt}
use Rattle.block_mem.specs.declared.types.Byte.{Byte}
use Rattle.block_mem.specs.declared.types.Scalar.{Scalar}
use Rattle.block_mem.specs.declared.types.Scalar.TheVariants as scalars
use Rattle.block_mem.specs.declared.types.Value.{Value}
use Rattle.block_mem.specs.Blocks.{block_at, load}
use Rattle.block_mem.specs.Numbers.{number_of}
use Rattle.block_mem.specs.Pieces.{get_bytes}
use Rattle.c_values.specs.Places.{ObjectMemory, place_of, spot}

-- so many bytes read as a number, in two's complement where it has a sign (C11 6.2.6.2)
abbrev pub with_sign : Bool → ℕ → ℕ → ℤ
with_sign signed size n = if signed && nat_le (2 ^ (8 * size - 1)) n then pos n -ℤ pos (2 ^ (8 * size)) else pos n

-- bytes as the number that they are, where there are so many and all of them are numbers
abbrev pub whole_number : Bool → ℕ → List Byte → Option ℤ
whole_number signed size bs = if length bs == size then option_map (with_sign signed size) (number_of bs) else None

-- the number of a cell, with a sign or without: none where its object does not live, or where a byte is no number
abbrev pub cell_number : Bool → ObjectMemory → Cell → Option ℤ
cell_number signed m cell =
    option_and_then (λ b. whole_number signed cell.size (get_bytes (block_at m.blocks b).bytes cell.offset cell.size)) (place_of m cell.object)

-- where the pointer that a load gave points
abbrev pub spot_loaded : ObjectMemory → Result Value WrongKind → Option Spot
spot_loaded m (Ok v) = spot m v
spot_loaded m (Err kind) = None

-- the spot of a cell: that of the pointer, or null, that a load of a pointer gives
abbrev pub cell_spot : ObjectMemory → Cell → Option Spot
cell_spot m cell =
    option_and_then (λ b. spot_loaded m (load m.blocks (record { block = b; offset = pos cell.offset }) scalars.Pointer)) (place_of m cell.object)

-- the scalar of so many bytes that stands at this offset of a type, or none
pub record IsFoundAt (structs : List StructDefTree) (whole : CTypeTree) (offset size : ℕ) (found : Option CTypeTree) : Type 0 where
  pub there : IfSome found (IsScalarAt structs whole offset size)
  pub only : EachScalar structs whole offset size (λ ty. IsSomeAnd found (λ f. ty ≡ f))

-- a number is read with the sign of the integer type that stands there, and as signed where none does
abbrev pub is_read_signed : Option CTypeTree → Bool
is_read_signed (Some (Int t)) = is_signed t
is_read_signed (Some ty) = true
is_read_signed None = true

-- the number of a cell: that of its bytes, read with the sign of the scalar that stands at its offset and size in its object
pub record IsCellNumber (structs : List StructDefTree) (objects : List ObjectTree) (m : ObjectMemory) (cell : Cell) (n : ℤ) : Type 0 where
  pub object : ObjectTree
  pub is : slice_get objects cell.object ≡ Some object
  pub found : Option CTypeTree
  pub scalar : IsFoundAt structs object.ty cell.offset cell.size found
  pub number : cell_number (is_read_signed found) m cell ≡ Some n

-- a scalar of this type stands at the offset and size of a cell in its object
abbrev pub StandsInCell : List StructDefTree → List ObjectTree → Cell → CTypeTree → Type 0
StandsInCell structs objects cell ty = IsSomeAnd (slice_get objects cell.object) (λ object. IsScalarAt structs object.ty cell.offset cell.size ty)

-- a load of a scalar of this type from a cell gives the value
abbrev pub LoadsFrom : ObjectMemory → Cell → Scalar → Value → Type 0
LoadsFrom m cell ty v = IsSomeAnd (place_of m cell.object) (λ b. load m.blocks (record { block = b; offset = pos cell.offset }) ty ≡ Ok v)
