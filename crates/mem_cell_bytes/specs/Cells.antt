-- Cells and single bytes of an object, and when bytes of memory meet them; what a pointer may point to.
use Rattle.std.specs.Prelude.{ℕ, ℤ, pos, ◌≡◌, ◌⊎◌, ◌+◌, ◌*◌, ◌/◌, ◌%◌, ◌^◌, ◌<◌, true, false, List, length, replicate, slice_index_or}
use Rattle.std.specs.Int.{byte_len}
use Rattle.c_syntax_written.specs.Integer.{std_width}
use Rattle.c_syntax_written.specs.declared.int_type.IntType.{IntType}
use Rattle.pointsets.specs.declared.Base.TheVariants.{Null, Dead, Object}
use Rattle.pointsets.specs.Targets.{BaseSet, has_base}
use Rattle.block_mem.specs.declared.types.Byte.{Byte}
use Rattle.block_mem.specs.declared.types.Byte.TheVariants as bytes
use Rattle.block_mem.specs.declared.types.Pointer.{Pointer}
use Rattle.block_mem.specs.declared.types.Value.{Value}
use Rattle.block_mem.specs.declared.types.Value.TheVariants as values
use Rattle.block_mem.specs.Numbers.{number_in, bits_in, low_bytes}
use Rattle.block_mem.specs.Pieces.{pieces, get_bytes}
use Rattle.block_mem.specs.Blocks.{block_at}
use Rattle.c_values.specs.Places.{ObjectMemory, owner_of}
use Rattle.mem_cell_bytes.specs.declared.entry.Entry.{Entry}
use Rattle.mem_cell_bytes.specs.declared.entry.FillByte.{FillByte}
use Rattle.mem_cell_bytes.specs.declared.entry.FillByte.TheVariants as fills

-- ---- variables

abbrev pub size_of : Entry → ℕ
size_of e = byte_len (std_width e.ty)

-- temporaries have the even variables
abbrev pub temp_var : ℕ → ℕ
temp_var d = 2 * d

-- and so many bytes of an object from an offset below 2 to the 16 on, at most 8, an odd one: each such place and size has one of its own
abbrev pub place_var : ℕ → ℕ → ℕ → ℕ
place_var o k size = 2 * (16 * (65536 * o + k) + size) + 1

abbrev pub var_of : ℕ → Entry → ℕ
var_of o e = place_var o e.offset (size_of e)

-- ---- pointers

-- the set has what the block of this number is: its object where it lives, and else Dead
pub record HasBlock (m : ObjectMemory) (set : BaseSet) (b : ℕ) : Type 0 where
  pub live : (block_at m.blocks b).live ≡ true → has_base set (Object (owner_of m b)) ≡ true
  pub dead : (block_at m.blocks b).live ≡ false → has_base set Dead ≡ true

-- the set has what the value points to
abbrev pub Points : ObjectMemory → BaseSet → Value → Type 0
Points m set (values.Int u n) = Unit {0}
Points m set (values.Ptr p) = HasBlock m set p.block
Points m set values.Null = has_base set Null ≡ true

-- the number of a value: an integer, the offset of a pointer, or 0
abbrev pub number_of : Value → ℤ
number_of (values.Int u n) = n
number_of (values.Ptr p) = p.offset
number_of values.Null = pos 0

-- ---- bytes

-- the three things that the bytes of a cell may be; what is none of them is in no cell
pub record IsBlank (e : Entry) (bs : List Byte) : Type 0 where
  pub may : e.undef ≡ true
  pub are : bs ≡ replicate (size_of e) bytes.Undef

pub record IsNumber (e : Entry) (bs : List Byte) (x : ℤ) : Type 0 where
  pub may : e.value ≡ true
  pub number : ℕ
  pub small : number < 2 ^ (8 * size_of e)
  pub are : bs ≡ low_bytes (size_of e) number
  pub is : x ≡ number_in e.ty number

pub record IsPointer (m : ObjectMemory) (e : Entry) (bs : List Byte) (x : ℤ) : Type 0 where
  pub pointer : Pointer
  pub eight : size_of e ≡ 8
  pub are : bs ≡ pieces pointer 0 8
  pub may : HasBlock m e.targets pointer.block
  pub is : x ≡ pointer.offset

abbrev pub Meets : ObjectMemory → Entry → List Byte → ℤ → Type 0
Meets m e bs x = IsBlank e bs ⊎ IsNumber e bs x ⊎ IsPointer m e bs x

-- the bytes of a block that are those of a cell
abbrev pub bytes_in : ObjectMemory → ℕ → Entry → List Byte
bytes_in m b e = get_bytes (block_at m.blocks b).bytes e.offset (size_of e)

abbrev pub filling : FillByte → Byte
filling fills.Undef = bytes.Undef
filling (fills.Num n) = bytes.Num n

-- byte q of the block is there, and is this one
abbrev pub HasByte : ObjectMemory → ℕ → ℕ → FillByte → Type 0
HasByte m b q x = (q < length (block_at m.blocks b).bytes) × (slice_index_or (block_at m.blocks b).bytes q bytes.Undef ≡ filling x)

-- ---- parts of numbers

-- a part of a number of type t, from byte i on, as a number of type u
abbrev pub part : IntType → ℤ → ℕ → IntType → ℤ
part t x i u = number_in u (bits_in t x / 2 ^ (8 * i) % 2 ^ (8 * byte_len (std_width u)))
