-- Numbers of a type and their bits are the same up to a multiple of 2 to the width.
use Rattle.std.proofs.Common.{◌^◌, ℤ, pos, negsuc, arith}
use Rattle.std.proofs.lemmas.Int.{ints}
use Rattle.c_syntax_written.specs.declared.int_type.IntType.{IntType}
use Rattle.c_syntax_written.specs.declared.int_type.IntType.TheVariants.{Char, SChar, UChar, Short, UShort, Int, UInt, Long, ULong, LLong, ULLong}
use Rattle.c_syntax_written.specs.Integer.{width, HasNumber}
use Rattle.block_mem.specs.Numbers.{bits_in}
use Rattle.num_api.specs.Residues.{class_of, InResidue}

pub same_bits : (t : IntType) (a : ℤ) → HasNumber t a → InResidue (class_of (pos (bits_in t a)) (pos (2 ^ width t))) a
same_bits Char (pos a) h = (pos 0, omega (arith, ints))
same_bits Char (negsuc a) h = (negsuc 0, omega (arith, ints))
same_bits SChar (pos a) h = (pos 0, omega (arith, ints))
same_bits SChar (negsuc a) h = (negsuc 0, omega (arith, ints))
same_bits UChar (pos a) h = (pos 0, omega (arith, ints))
same_bits UChar (negsuc a) h = absurd (omega (arith, ints))
same_bits Short (pos a) h = (pos 0, omega (arith, ints))
same_bits Short (negsuc a) h = (negsuc 0, omega (arith, ints))
same_bits UShort (pos a) h = (pos 0, omega (arith, ints))
same_bits UShort (negsuc a) h = absurd (omega (arith, ints))
same_bits Int (pos a) h = (pos 0, omega (arith, ints))
same_bits Int (negsuc a) h = (negsuc 0, omega (arith, ints))
same_bits UInt (pos a) h = (pos 0, omega (arith, ints))
same_bits UInt (negsuc a) h = absurd (omega (arith, ints))
same_bits Long (pos a) h = (pos 0, omega (arith, ints))
same_bits Long (negsuc a) h = (negsuc 0, omega (arith, ints))
same_bits ULong (pos a) h = (pos 0, omega (arith, ints))
same_bits ULong (negsuc a) h = absurd (omega (arith, ints))
same_bits LLong (pos a) h = (pos 0, omega (arith, ints))
same_bits LLong (negsuc a) h = (negsuc 0, omega (arith, ints))
same_bits ULLong (pos a) h = (pos 0, omega (arith, ints))
same_bits ULLong (negsuc a) h = absurd (omega (arith, ints))
