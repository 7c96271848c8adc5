-- Bytes of values.
use Rattle.std.proofs.Common.{ℕ, ℤ, zero, suc, ◌≡◌, ◌+◌, ◌<◌, ◌≤◌, ◌%◌, ◌/◌, true, List, ◌∷◌, length, take, drop, get_or, refl, subst, ap, ◌∙◌, arith, lit≤, drop-cons}
use Rattle.std.specs.Int.{byte_len}
use Rattle.c_syntax_written.specs.declared.int_type.IntType.{IntType}
use Rattle.c_syntax_written.specs.declared.int_type.IntType.TheVariants.{Char, SChar, UChar, Short, UShort, Int, UInt, Long, ULong, LLong, ULLong}
use Rattle.block_mem.specs.declared.types.Byte.{Byte}
use Rattle.block_mem.specs.declared.types.Byte.TheVariants.{Undef, Num, Frag}
use Rattle.block_mem.specs.declared.types.Value.TheVariants as values
use Rattle.block_mem.specs.declared.types.Scalar.{Scalar}
use Rattle.block_mem.specs.declared.types.Scalar.TheVariants as scalars
use Rattle.c_syntax_written.specs.Integer.{std_width}
use Rattle.block_mem.specs.Numbers.{bits_in, low_bytes}
use Rattle.block_mem.specs.Bytes.{size_of, IsOf, bytes_of, has_undef}

pub take-low_bytes : (k n m : ℕ) → k ≤ n → take k (low_bytes n m) ≡ low_bytes k m
unfolding low_bytes
take-low_bytes zero n m h = refl
take-low_bytes (suc k) zero m h = absurd (omega arith)
take-low_bytes (suc k) (suc n) m h = ap (λ r. Num (m % 256) ∷ r) (take-low_bytes k n (m / 256) (omega arith))

pub int_size_le : (t : IntType) → byte_len (std_width t) ≤ 8
int_size_le Char = lit≤ tt
int_size_le SChar = lit≤ tt
int_size_le UChar = lit≤ tt
int_size_le Short = lit≤ tt
int_size_le UShort = lit≤ tt
int_size_le Int = lit≤ tt
int_size_le UInt = lit≤ tt
int_size_le Long = lit≤ tt
int_size_le ULong = lit≤ tt
int_size_le LLong = lit≤ tt
int_size_le ULLong = lit≤ tt

-- the first of eight bytes are those of a number
pub int_bytes : (ty : Scalar) (t : IntType) (n : ℤ) → IsOf ty (values.Int t n) → take (size_of ty) (low_bytes 8 (bits_in t n)) ≡ bytes_of (values.Int t n)
int_bytes (scalars.Int u) t n h =
    subst (λ s. take (byte_len (std_width s)) (low_bytes 8 (bits_in t n)) ≡ bytes_of (values.Int t n)) h.0 (take-low_bytes (byte_len (std_width t)) 8 (bits_in t n) (int_size_le t))
int_bytes scalars.Pointer t n h = absurd h

-- one byte more is seen
pub undef_here : (bs : List Byte) (i : ℕ) (d : Byte) → i < length bs → get_or bs i d ≡ Undef → has_undef (drop i bs) ≡ true
undef_here bs i d h is = ap has_undef (drop-cons bs i d h) ∙ ap (λ b. has_undef (b ∷ drop (suc i) bs)) is

defined : (b : Byte) (rest : List Byte) → (b ≡ Undef → ⊥) → has_undef (b ∷ rest) ≡ has_undef rest
defined Undef rest h = absurd (h refl)
defined (Num n) rest h = refl
defined (Frag p k) rest h = refl

pub undef_further : (bs : List Byte) (i : ℕ) (d : Byte) → i < length bs → (get_or bs i d ≡ Undef → ⊥) → has_undef (drop i bs) ≡ has_undef (drop (i + 1) bs)
undef_further bs i d h is =
    let e : suc i ≡ i + 1 = omega arith in
    ap has_undef (drop-cons bs i d h) ∙ defined (get_or bs i d) (drop (suc i) bs) is ∙ ap (λ n. has_undef (drop n bs)) e
