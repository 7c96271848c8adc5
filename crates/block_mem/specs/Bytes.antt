-- Values as bytes.
use Rattle.std.specs.Prelude.{ℕ, ◌≡◌, ◌==◌, Bool, true, false, if◌then◌else◌, List, [], ◌∷◌, Option, Some, None, option_map}
use Rattle.std.specs.Int.{byte_len}
use Rattle.c_syntax.specs.Operand.{LoadMark, HasValue, Broken}
use Rattle.c_syntax.specs.Operand as operand
use Rattle.block_mem.specs.declared.types.Byte.{Byte}
use Rattle.block_mem.specs.declared.types.Byte.TheVariants.{Undef, Num, Frag}
use Rattle.block_mem.specs.declared.types.Value.{Value}
use Rattle.block_mem.specs.declared.types.Value.TheVariants as values
use Rattle.block_mem.specs.declared.types.Scalar.{Scalar}
use Rattle.block_mem.specs.declared.types.Scalar.TheVariants as scalars
use Rattle.c_syntax_written.specs.Integer.{std_width, HasNumber}
use Rattle.block_mem.specs.Numbers.{bits_in, number_in, low_bytes, number_of}
use Rattle.block_mem.specs.Pieces.{pieces, are_pieces}

-- a type's size in bytes, which is its alignment too (this profile)
abbrev pub size_of : Scalar → ℕ
size_of (scalars.Int t) = byte_len (std_width t)
size_of scalars.Pointer = 8

-- a value is one of the type
abbrev pub IsOf : Scalar → Value → Type 0
IsOf (scalars.Int t) (values.Int u n) = (u ≡ t) × HasNumber t n
IsOf (scalars.Int t) (values.Ptr p) = ⊥
IsOf (scalars.Int t) values.Null = ⊥
IsOf scalars.Pointer (values.Int u n) = ⊥
IsOf scalars.Pointer (values.Ptr p) = Unit {0}
IsOf scalars.Pointer values.Null = Unit {0}

-- the bytes of a value: a number from its lowest, a pointer as its pieces 0 to 7, and eight zeros for the null pointer
abbrev pub bytes_of : Value → List Byte
bytes_of (values.Int t n) = low_bytes (byte_len (std_width t)) (bits_in t n)
bytes_of (values.Ptr p) = pieces p 0 8
bytes_of values.Null = low_bytes 8 0

-- a byte has no value
abbrev pub has_undef : List Byte → Bool
has_undef [] = false
has_undef (Undef ∷ bs) = true
has_undef (Num n ∷ bs) = has_undef bs
has_undef (Frag p k ∷ bs) = has_undef bs

-- the null pointer, where eight bytes are the number 0
abbrev pub null_of : Option ℕ → Option Value
null_of None = None
null_of (Some m) = if m == 0 then Some values.Null else None

-- the pointer that eight bytes hold: pieces 0 to 7 of one pointer, or eight zeros
abbrev pub pointer_of : List Byte → Option Value
pointer_of [] = None
pointer_of (Undef ∷ bs) = None
pointer_of (Num n ∷ bs) = null_of (number_of (Num n ∷ bs))
pointer_of (Frag p k ∷ bs) = if are_pieces p 0 (Frag p k ∷ bs) then Some (values.Ptr p) else None

-- the value of a type that its bytes hold
abbrev pub value_of : Scalar → List Byte → Option Value
value_of (scalars.Int t) bs = option_map (λ m. values.Int t (number_in t m)) (number_of bs)
value_of scalars.Pointer bs = pointer_of bs

-- bytes that have values hold one of their type, or none
abbrev pub value_or_broken : Option Value → LoadMark
value_or_broken None = Broken
value_or_broken (Some v) = HasValue

-- the mark of a load: a byte has no value, or they hold a value of the type, or neither
abbrev pub mark_of : Scalar → List Byte → LoadMark
mark_of ty bs = if has_undef bs then operand.Undef else value_or_broken (value_of ty bs)
