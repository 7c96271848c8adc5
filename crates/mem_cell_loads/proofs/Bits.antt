-- Numbers of bytes as values of a type.
use Rattle.std.proofs.Common.{ℕ, ℤ, pos, ◌≡◌, ◌*◌, ◌%◌, ◌^◌, ◌<◌, List, Some, refl, ap, ◌∙◌, arith}
use Rattle.std.specs.Int.{byte_len, int_wrap}
use Rattle.std.proofs.Math.Facts.{sfits_to_z}
use Rattle.std.proofs.Math.Nat.{mod-eq_of_lt}
use Rattle.std.proofs.lemmas.Int.{ints}
use Rattle.c_syntax_written.specs.declared.int_type.IntType.{IntType}
use Rattle.c_syntax_written.specs.declared.int_type.IntType.TheVariants.{Char, SChar, UChar, Short, UShort, Int, UInt, Long, ULong, LLong, ULLong}
use Rattle.c_syntax_written.specs.Integer.{std_width, HasNumber, wrapped}
use Rattle.block_mem.specs.Numbers.{number_in}
use Rattle.machine_nums.specs.MExprs as numbers
use Rattle.machine_nums.specs.Machine.{machine_value}

wrap-low : (t : IntType) (m : ℕ) → wrapped t (pos m) ≡ number_in t (m % 2 ^ (8 * byte_len (std_width t)))
unfolding int_wrap
wrap-low Char m = refl
wrap-low SChar m = refl
wrap-low UChar m = refl
wrap-low Short m = refl
wrap-low UShort m = refl
wrap-low Int m = refl
wrap-low UInt m = refl
wrap-low Long m = refl
wrap-low ULong m = refl
wrap-low LLong m = refl
wrap-low ULLong m = refl

-- bits that a type has, as a number of it
pub wrap-bits : (t : IntType) (m : ℕ) → m < 2 ^ (8 * byte_len (std_width t)) → wrapped t (pos m) ≡ number_in t m
wrap-bits t m h = wrap-low t m ∙ ap (number_in t) (mod-eq_of_lt h)

few-bits : (t : IntType) (m : ℕ) → m < 2 ^ (8 * byte_len (std_width t)) → m < 2 ^ 64
few-bits Char m h = omega (arith, h)
few-bits SChar m h = omega (arith, h)
few-bits UChar m h = omega (arith, h)
few-bits Short m h = omega (arith, h)
few-bits UShort m h = omega (arith, h)
few-bits Int m h = omega (arith, h)
few-bits UInt m h = omega (arith, h)
few-bits Long m h = omega (arith, h)
few-bits ULong m h = omega (arith, h)
few-bits LLong m h = omega (arith, h)
few-bits ULLong m h = omega (arith, h)

-- a constant of such bits
pub constant-bits : (v : List ℤ) (t : IntType) (m : ℕ) → m < 2 ^ (8 * byte_len (std_width t))
    → machine_value v (numbers.Convert t (numbers.Const ULong (pos m))) ≡ Some (number_in t m)
constant-bits v t m h = ap (λ x. Some (wrapped t x)) (wrap-bits ULong m (few-bits t m h)) ∙ ap Some (wrap-bits t m h)

-- a number of as many bits as the type has is one of the type
pub has_bits : (t : IntType) (m : ℕ) → m < 2 ^ (8 * byte_len (std_width t)) → HasNumber t (number_in t m)
has_bits Char m h = sfits_to_z (record { fits = omega (arith, h) })
has_bits SChar m h = sfits_to_z (record { fits = omega (arith, h) })
has_bits Short m h = sfits_to_z (record { fits = omega (arith, h) })
has_bits Int m h = sfits_to_z (record { fits = omega (arith, h) })
has_bits Long m h = sfits_to_z (record { fits = omega (arith, h) })
has_bits LLong m h = sfits_to_z (record { fits = omega (arith, h) })
has_bits UChar m h = (omega (arith, ints), omega (arith, ints, h))
has_bits UShort m h = (omega (arith, ints), omega (arith, ints, h))
has_bits UInt m h = (omega (arith, ints), omega (arith, ints, h))
has_bits ULong m h = (omega (arith, ints), omega (arith, ints, h))
has_bits ULLong m h = (omega (arith, ints), omega (arith, ints, h))
