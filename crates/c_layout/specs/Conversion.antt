-- Ranks, promotions and the usual arithmetic conversions, and the type of an integer constant.
use Rattle.std.specs.Prelude.{ℕ, Bool, false, nat_lt, nat_le, if◌then◌else◌, Option}
use Rattle.c_syntax_written.specs.declared.int_type.IntType.{IntType}
use Rattle.c_syntax_written.specs.declared.int_type.IntType.TheVariants.{Char, SChar, UChar, Short, UShort, Int, UInt, Long, ULong, LLong, ULLong}
use Rattle.c_syntax_written.specs.Integer.{width, is_signed}
use Rattle.c_syntax_written.specs.Constant.{constant_type}

-- the conversion rank (C11 6.3.1.1p1)
abbrev pub rank : IntType → ℕ
rank Char = 1
rank SChar = 1
rank UChar = 1
rank Short = 2
rank UShort = 2
rank Int = 3
rank UInt = 3
rank Long = 4
rank ULong = 4
rank LLong = 5
rank ULLong = 5

-- every number of the second type is one of the first
abbrev pub has_all_of : IntType → IntType → Bool
has_all_of t u = if is_signed t
    then (if is_signed u then nat_le (width u) (width t) else nat_lt (width u) (width t))
    else (if is_signed u then false else nat_le (width u) (width t))

-- the integer promotions (C11 6.3.1.1p2)
abbrev pub promoted : IntType → IntType
promoted t = if nat_le (rank t) (rank Int) then (if has_all_of Int t then Int else UInt) else t

-- the unsigned type of the same rank (C11 6.2.5p6)
abbrev pub unsigned_of : IntType → IntType
unsigned_of Char = UChar
unsigned_of SChar = UChar
unsigned_of Short = UShort
unsigned_of Int = UInt
unsigned_of Long = ULong
unsigned_of LLong = ULLong
unsigned_of t = t

-- of two promoted types of one sign, that of the greater rank (C11 6.3.1.8p1)
abbrev pub higher : IntType → IntType → IntType
higher a b = if nat_lt (rank a) (rank b) then b else a

-- what a signed and an unsigned promoted type come to (C11 6.3.1.8p1)
abbrev pub mixed : IntType → IntType → IntType
mixed s u = if nat_le (rank s) (rank u) then u else (if has_all_of s u then s else unsigned_of s)

-- what two promoted types come to (C11 6.3.1.8p1)
abbrev pub common : IntType → IntType → IntType
common a b = if is_signed a
    then (if is_signed b then higher a b else mixed a b)
    else (if is_signed b then mixed b a else higher a b)

-- the usual arithmetic conversions on integers (C11 6.3.1.8p1)
abbrev pub balanced : IntType → IntType → IntType
balanced a b = common (promoted a) (promoted b)

-- the type of an integer constant of this value: whether it is decimal, has a `u`, and how many times an `l` (C11 6.4.4.1p5)
abbrev pub literal_type_of : ℕ → Bool → Bool → ℕ → Option IntType
literal_type_of value decimal unsigned longs = constant_type (record { value = value; decimal = decimal; unsigned = unsigned; longs = longs })
