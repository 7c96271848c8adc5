-- What operators give on numbers.
use Rattle.std.specs.Prelude.{ℕ, ℤ, pos, ◌^◌, ◌+ℤ◌, ◌-ℤ◌, ◌*ℤ◌, neg_ℤ, int_div, int_le, int_lt, nat_abs, bit_and, bit_or, bit_xor, Bool, not}
use Rattle.std.specs.Int.{int_div_euclid}
use Rattle.std.specs.Ordering.{int_eq}
use Rattle.c_syntax_written.specs.declared.int_type.IntType.{IntType}
use Rattle.c_syntax_written.specs.Integer.{wrapped}
use Rattle.c_syntax.specs.declared.operator.Arithmetic.{Arithmetic}
use Rattle.c_syntax.specs.declared.operator.Arithmetic.TheVariants.{Multiply, Divide, Remainder, Add, Subtract, BitAnd, BitXor, BitOr}
use Rattle.c_syntax.specs.declared.operator.Shift.{Shift}
use Rattle.c_syntax.specs.declared.operator.Shift.TheVariants.{Left, Right}
use Rattle.c_syntax.specs.declared.operator.Comparison.{Comparison}
use Rattle.c_syntax.specs.declared.operator.Comparison.TheVariants.{Less, Greater, AtMost, AtLeast, Equal, Unequal}
use Rattle.block_mem.specs.Numbers.{bits_in}

-- the exact number at which the checks of an operator look: for `%` the quotient (C11 6.5.5p6). An operator on bits has none
abbrev pub exact_arithmetic : Arithmetic → ℤ → ℤ → ℤ
exact_arithmetic Multiply a b = a *ℤ b
exact_arithmetic Divide a b = int_div a b
exact_arithmetic Remainder a b = int_div a b
exact_arithmetic Add a b = a +ℤ b
exact_arithmetic Subtract a b = a -ℤ b
exact_arithmetic BitAnd a b = pos 0
exact_arithmetic BitXor a b = pos 0
exact_arithmetic BitOr a b = pos 0

-- an operator on the bits of two numbers of a type (C11 6.5.10 to 6.5.12, 6.2.6.2)
abbrev pub on_bits : (ℕ → ℕ → ℕ) → IntType → ℤ → ℤ → ℤ
on_bits f t a b = wrapped t (pos (f (bits_in t a) (bits_in t b)))

-- what is left of a dividend, whose sign it has (C11 6.5.5p6)
abbrev pub remainder : ℤ → ℤ → ℤ
remainder a b = a -ℤ (int_div a b *ℤ b)

-- the result at a type: what does not fit an unsigned type is taken modulo 2 to its width (C11 6.2.5p9); a quotient is cut towards zero (C11 6.5.5p6)
abbrev pub arithmetic : Arithmetic → IntType → ℤ → ℤ → ℤ
arithmetic Multiply t a b = wrapped t (a *ℤ b)
arithmetic Divide t a b = wrapped t (int_div a b)
arithmetic Remainder t a b = wrapped t (remainder a b)
arithmetic Add t a b = wrapped t (a +ℤ b)
arithmetic Subtract t a b = wrapped t (a -ℤ b)
arithmetic BitAnd t a b = on_bits bit_and t a b
arithmetic BitXor t a b = on_bits bit_xor t a b
arithmetic BitOr t a b = on_bits bit_or t a b

-- the exact result of a shift to the left (C11 6.5.7p4)
abbrev pub exact_shift : ℤ → ℤ → ℤ
exact_shift a k = a *ℤ pos (2 ^ nat_abs k)

-- a shift to the right is a division that is cut downwards: for a negative number it is arithmetic (C11 6.5.7p5, this profile)
abbrev pub shifted : Shift → IntType → ℤ → ℤ → ℤ
shifted Left t a k = wrapped t (exact_shift a k)
shifted Right t a k = int_div_euclid a (pos (2 ^ nat_abs k))

-- C11 6.5.3.3p4, in two's complement
abbrev pub complement : IntType → ℤ → ℤ
complement t n = wrapped t (neg_ℤ n -ℤ pos 1)

-- C11 6.5.8p6, 6.5.9p3
abbrev pub compares : Comparison → ℤ → ℤ → Bool
compares Less a b = int_lt a b
compares Greater a b = int_lt b a
compares AtMost a b = int_le a b
compares AtLeast a b = int_le b a
compares Equal a b = int_eq a b
compares Unequal a b = not (int_eq a b)
