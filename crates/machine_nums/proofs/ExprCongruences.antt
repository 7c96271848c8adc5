-- Numbers that are the same up to a multiple of 2 to the width of a type wrap to one number of it.
use Rattle.std.proofs.Common.{◌≡◌, ◌^◌, ◌≤ℤ◌, ℕ, ℤ, pos, arith, refl}
use Rattle.std.specs.Int.{Width, w8, w16, w32, w64, int_rem_euclid, int_wrap}
use Rattle.std.proofs.lemmas.Int.{ints}
use Rattle.c_syntax_written.specs.declared.int_type.IntType.{IntType}
use Rattle.c_syntax_written.specs.declared.int_type.IntType.TheVariants.{Char, SChar, UChar, Short, UShort, Int, UInt, Long, ULong, LLong, ULLong}
use Rattle.c_syntax_written.specs.Integer.{width, wrapped}
use Rattle.num_api.specs.Residues.{class_of, InResidue}
use Rattle.num_api.proofs.Multiples.{in_shifted}
use Rattle.num_api.proofs.Remainders.{rem_same, rem_low, rem_high, rem_unique}

same_rem : (k : ℕ) (x r : ℤ) → pos 1 ≤ℤ pos (2 ^ k) → InResidue (class_of r (pos (2 ^ k))) x → int_rem_euclid x (pos (2 ^ k)) ≡ int_rem_euclid r (pos (2 ^ k))
same_rem k x r one h =
    let m = pos (2 ^ k) in
    rem_unique x m (int_rem_euclid r m) one (in_shifted r (int_rem_euclid r m) m x (rem_same r m one) h) (rem_low r m one) (rem_high r m one)

same_wrap : (w : Width) (x r : ℤ) → int_rem_euclid x (pos (2 ^ mir.Val.bits w)) ≡ int_rem_euclid r (pos (2 ^ mir.Val.bits w)) → int_wrap w x ≡ int_wrap w r
unfolding int_wrap
same_wrap w x r e = rw e refl

-- wrapping
pub wrapped_same : (t : IntType) (x r : ℤ) → InResidue (class_of r (pos (2 ^ width t))) x → wrapped t x ≡ wrapped t r
wrapped_same Char x r h = same_wrap w8 x r (same_rem 8 x r (omega (arith, ints)) h)
wrapped_same SChar x r h = same_wrap w8 x r (same_rem 8 x r (omega (arith, ints)) h)
wrapped_same UChar x r h = same_rem 8 x r (omega (arith, ints)) h
wrapped_same Short x r h = same_wrap w16 x r (same_rem 16 x r (omega (arith, ints)) h)
wrapped_same UShort x r h = same_rem 16 x r (omega (arith, ints)) h
wrapped_same Int x r h = same_wrap w32 x r (same_rem 32 x r (omega (arith, ints)) h)
wrapped_same UInt x r h = same_rem 32 x r (omega (arith, ints)) h
wrapped_same Long x r h = same_wrap w64 x r (same_rem 64 x r (omega (arith, ints)) h)
wrapped_same ULong x r h = same_rem 64 x r (omega (arith, ints)) h
wrapped_same LLong x r h = same_wrap w64 x r (same_rem 64 x r (omega (arith, ints)) h)
wrapped_same ULLong x r h = same_rem 64 x r (omega (arith, ints)) h
