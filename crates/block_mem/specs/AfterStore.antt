-- What holds of memory after bytes were written.
use Rattle.std.specs.Prelude.{ℕ, ◌≡◌, ◌≢◌, ◌+◌, ◌*◌, ◌/◌, ◌%◌, ◌^◌, ◌<◌, ◌≤◌, ◌⊎◌, List, length, Ok, slice_index_or}
use Rattle.std.specs.Int.{byte_len}
use Rattle.c_syntax_written.specs.declared.int_type.IntType.{IntType}
use Rattle.block_mem.specs.declared.types.Byte.TheVariants.{Undef}
use Rattle.block_mem.specs.declared.types.Pointer.{Pointer}
use Rattle.block_mem.specs.declared.types.Value.{Value}
use Rattle.block_mem.specs.declared.types.Value.TheVariants as values
use Rattle.block_mem.specs.declared.types.Scalar.TheVariants as scalars
use Rattle.c_syntax_written.specs.Integer.{std_width}
use Rattle.block_mem.specs.Numbers.{bits_in, number_in}
use Rattle.block_mem.specs.Pieces.{get_bytes, cut_byte}
use Rattle.block_mem.specs.Block.{BlockView}
use Rattle.block_mem.specs.Blocks.{block_at, place, loaded}

-- every integer type that fits within a stored number reads the bits that stand there (this profile: integers may be read through any integer type by their
-- bytes)
abbrev pub ReadsParts : List BlockView → Pointer → Value → Type 0
ReadsParts m at (values.Int t n) =
    (u : IntType) (i : ℕ) → i + byte_len (std_width u) ≤ byte_len (std_width t)
    → loaded (scalars.Int u) (get_bytes (block_at m at.block).bytes (place at + i) (byte_len (std_width u)))
    ≡ Ok (values.Int u (number_in u (bits_in t n / 2 ^ (8 * i) % 2 ^ (8 * byte_len (std_width u)))))
ReadsParts m at (values.Ptr p) = Unit {0}
ReadsParts m at values.Null = Unit {0}

-- a write of n bytes changes nothing elsewhere but pieces of the pointers that it cut
pub record KeepsElsewhere (old new : List BlockView) (at : Pointer) (n : ℕ) : Type 0 where
  pub blocks : (b : ℕ) → b ≢ at.block → block_at new b ≡ block_at old b
  pub bytes : (q : ℕ) → q < length (block_at old at.block).bytes → (q < place at) ⊎ (place at + n ≤ q)
      → slice_index_or (block_at new at.block).bytes q Undef ≡ cut_byte (place at) n q (slice_index_or (block_at old at.block).bytes q Undef)
