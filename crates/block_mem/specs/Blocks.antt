-- Memory: blocks, numbered as they are made (C11 6.2.4, 6.5.3.2).
use Rattle.std.specs.Prelude.{ℕ, ◌<◌, Bool, false, if◌then◌else◌, List, [], length, replicate, Option, Some, None, Result, Err, MatchOption, slice_index_or, slice_set, unwrap_or}
use Rattle.std.specs.Option.{ok_or}
use Rattle.c_syntax.specs.declared.alarm.WrongKind.{WrongKind}
use Rattle.c_syntax.specs.declared.alarm.WrongKind.TheVariants.{Indeterminate, Fragment}
use Rattle.block_mem.specs.declared.types.Pointer.{Pointer}
use Rattle.block_mem.specs.declared.types.Byte.{Byte}
use Rattle.block_mem.specs.declared.types.Byte.TheVariants.{Undef}
use Rattle.block_mem.specs.declared.types.Value.{Value}
use Rattle.block_mem.specs.declared.types.Scalar.{Scalar}
use Rattle.block_mem.specs.Block.{BlockView, place_of, wrong_in}
use Rattle.block_mem.specs.Pieces.{get_bytes, stored, taken}
use Rattle.block_mem.specs.Bytes.{size_of, bytes_of, has_undef, value_of}

-- what stands at a number that no block has
abbrev pub no_block : BlockView
no_block = record { read_only = false; live = false; bytes = [] }

-- the block of a number
abbrev pub block_at : List BlockView → ℕ → BlockView
block_at m number = slice_index_or m number no_block

-- the memory with other bytes in a block
abbrev pub with_bytes : List BlockView → ℕ → List Byte → List BlockView
with_bytes m number bs = slice_set m number (record (block_at m number) { bytes = bs })

-- the memory after a block ended
abbrev pub with_ended : List BlockView → ℕ → List BlockView
with_ended m number = slice_set m number (record (block_at m number) { live = false })

-- the memory after all bytes of a block lost their values
abbrev pub with_undefined : List BlockView → ℕ → List BlockView
with_undefined m number = with_bytes m number (replicate (length (block_at m number).bytes) Undef)

-- the place of a pointer to a byte of a block
abbrev pub place : Pointer → ℕ
place at = unwrap_or (place_of at.offset) 0

-- what is wrong first with an access of n bytes from a pointer on, a write or not
abbrev pub wrong_access : List BlockView → Pointer → ℕ → ℕ → Bool → Option WrongKind
wrong_access m at n align write = wrong_in (block_at m at.block) at.offset n align write

-- the pointer's block was made, and has a byte at the offset
abbrev pub HasByte : List BlockView → Pointer → Type 0
HasByte m at = MatchOption (place_of at.offset) ⊥ (λ k. k < length (block_at m at.block).bytes)

-- n bytes from a pointer on
abbrev pub bytes_at : List BlockView → Pointer → ℕ → List Byte
bytes_at m at n = get_bytes (block_at m at.block).bytes (place at) n

-- the value that bytes hold at a type, or what is wrong with them
abbrev pub loaded : Scalar → List Byte → Result Value WrongKind
loaded ty bs = if has_undef bs then Err Indeterminate else ok_or (value_of ty bs) Fragment

-- what is wrong with an access comes before what it gives
abbrev pub after_access : Option WrongKind → Result Value WrongKind → Result Value WrongKind
after_access None given = given
after_access (Some k) given = Err k

-- what a load gives: a value, or what is wrong first
abbrev pub load : List BlockView → Pointer → Scalar → Result Value WrongKind
load m at ty = after_access (wrong_access m at (size_of ty) (size_of ty) false) (loaded ty (bytes_at m at (size_of ty)))

-- memory after a value was stored
abbrev pub store : List BlockView → Pointer → Value → List BlockView
store m at v = with_bytes m at.block (stored (block_at m at.block).bytes (place at) (bytes_of v))

-- memory after n bytes were copied: all are read before any is written (this profile, "struct assignment")
abbrev pub copy : List BlockView → Pointer → Pointer → ℕ → List BlockView
copy m to from n = with_bytes m to.block (stored (block_at m to.block).bytes (place to) (taken (block_at m from.block).bytes (place from) n))

-- a byte of memory
abbrev pub byte : List BlockView → Pointer → Byte
byte m at = slice_index_or (block_at m at.block).bytes (place at) Undef

-- memory after one byte was put in, with no check and no pointer cut
abbrev pub set_byte : List BlockView → Pointer → Byte → List BlockView
set_byte m at b = with_bytes m at.block (slice_set (block_at m at.block).bytes (place at) b)
