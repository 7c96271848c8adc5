-- Whole numbers as bytes: this profile is little-endian, with two's complement.
use Rattle.std.specs.Prelude.{ℕ, ℤ, pos, zero, suc, ◌+◌, ◌*◌, ◌/◌, ◌%◌, if◌then◌else◌, List, [], ◌∷◌, Option, Some, None}
use Rattle.std.specs.Int.{cast_signed, cast_unsigned}
use Rattle.c_syntax_written.specs.declared.int_type.IntType.{IntType}
use Rattle.c_syntax_written.specs.Integer.{std_width, is_signed}
use Rattle.block_mem.specs.declared.types.Byte.{Byte}
use Rattle.block_mem.specs.declared.types.Byte.TheVariants.{Undef, Num, Frag}

-- the bits of a number of a type, read as a number without sign
abbrev pub bits_in : IntType → ℤ → ℕ
bits_in t n = cast_unsigned (std_width t) n

-- the number of a type that has these bits (C11 6.2.6.2, two's complement)
abbrev pub number_in : IntType → ℕ → ℤ
number_in t m = if is_signed t then cast_signed (std_width t) m else pos m

-- the k low bytes of a number, the lowest first
unfoldable pub low_bytes : ℕ → ℕ → List Byte
low_bytes zero m = []
low_bytes (suc k) m = Num (m % 256) ∷ low_bytes k (m / 256)

-- a low byte before the number of the higher ones, where both are numbers
abbrev pub low_first : Byte → Option ℕ → Option ℕ
low_first Undef rest = None
low_first (Num n) None = None
low_first (Num n) (Some m) = Some (n + 256 * m)
low_first (Frag p k) rest = None

-- the number that bytes hold, the lowest first; none where one of them is no number
abbrev pub number_of : List Byte → Option ℕ
number_of [] = Some 0
number_of (b ∷ bs) = low_first b (number_of bs)
