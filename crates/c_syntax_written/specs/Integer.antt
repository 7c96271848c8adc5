-- The integer types of this profile: their widths and signs, and the numbers that they have.
use Rattle.std.specs.Prelude.{ℕ, ◌-◌, ◌^◌, ℤ, pos, neg_ℤ, Bool, true, false, if◌then◌else◌, FitsSigned, MatchBool}
use Rattle.std.specs.Int.{Width, w8, w16, w32, w64, int_wrap, int_rem_euclid, FitsUnsigned}
use Rattle.c_syntax_written.specs.declared.int_type.IntType.{IntType}
use Rattle.c_syntax_written.specs.declared.int_type.IntType.TheVariants.{Char, SChar, UChar, Short, UShort, Int, UInt, Long, ULong, LLong, ULLong}

-- in bits (this profile)
abbrev pub width : IntType → ℕ
width Char = 8
width SChar = 8
width UChar = 8
width Short = 16
width UShort = 16
width Int = 32
width UInt = 32
width Long = 64
width ULong = 64
width LLong = 64
width ULLong = 64

-- in bytes
abbrev pub bytes : IntType → ℕ
bytes Char = 1
bytes SChar = 1
bytes UChar = 1
bytes Short = 2
bytes UShort = 2
bytes Int = 4
bytes UInt = 4
bytes Long = 8
bytes ULong = 8
bytes LLong = 8
bytes ULLong = 8

-- whether the type has negative numbers; char has (this profile)
abbrev pub is_signed : IntType → Bool
is_signed Char = true
is_signed SChar = true
is_signed UChar = false
is_signed Short = true
is_signed UShort = false
is_signed Int = true
is_signed UInt = false
is_signed Long = true
is_signed ULong = false
is_signed LLong = true
is_signed ULLong = false

-- the least number, in two's complement (C11 6.2.6.2p2, this profile)
abbrev pub least : IntType → ℤ
least t = if is_signed t then neg_ℤ (pos (2 ^ (width t - 1))) else pos 0

-- the greatest number (C11 6.2.6.2p1)
abbrev pub greatest : IntType → ℕ
greatest t = if is_signed t then 2 ^ (width t - 1) - 1 else 2 ^ width t - 1

-- the width as std names it
abbrev pub std_width : IntType → Width
std_width Char = w8
std_width SChar = w8
std_width UChar = w8
std_width Short = w16
std_width UShort = w16
std_width Int = w32
std_width UInt = w32
std_width Long = w64
std_width ULong = w64
std_width LLong = w64
std_width ULLong = w64

-- the type has this number (C11 6.2.6.2)
abbrev pub HasNumber : IntType → ℤ → Type 0
HasNumber t n = MatchBool (is_signed t) (FitsSigned (std_width t) n) (FitsUnsigned (std_width t) n)

-- the number of the type that is n modulo 2 to the width (C11 6.3.1.3p2, and p3 in this profile)
abbrev pub wrapped : IntType → ℤ → ℤ
wrapped t n = if is_signed t then int_wrap (std_width t) n else int_rem_euclid n (pos (2 ^ width t))
