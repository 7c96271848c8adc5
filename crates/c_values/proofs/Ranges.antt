-- Numbers of the types lie within 65 bits, and so do their products within 128.
use Rattle.std.proofs.Common.{◌≡◌, ℕ, suc, true, ◌-◌, ◌^◌, ◌<◌, ◌≤◌, ℤ, pos, negsuc, ◌*ℤ◌, ◌≤ℤ◌, arith, FitsSigned, to_z, of_z, lit<, lit≤, sym, subst, ap, ◌∙◌}
use Rattle.std.proofs.Math.Nat.{pow-le-pow_right, div-le_self}
use Rattle.std.specs.Prelude.{nat_abs, int_div, int_lt, ◌-ℤ◌}
use Rattle.std.specs.Int.{Width, w64, w128}
use Rattle.std.proofs.lemmas.Int.{ints, fits_signed_mul, to_z-of_z, quot_is}
use Rattle.c_syntax_written.specs.declared.int_type.IntType.{IntType}
use Rattle.c_syntax_written.specs.declared.int_type.IntType.TheVariants.{Char, SChar, UChar, Short, UShort, Int, UInt, Long, ULong, LLong, ULLong}
use Rattle.c_syntax_written.specs.Integer.{HasNumber, is_signed, least, greatest, width}
use Rattle.block_mem.specs.Numbers.{bits_in}

-- a number of a type is within its ends
pub record IsWithin (t : IntType) (n : ℤ) : Type 0 where
  pub low : least t ≤ℤ n
  pub high : n ≤ℤ pos (greatest t)

pub within : (t : IntType) (n : ℤ) → HasNumber t n → IsWithin t n
within Char n h = record { low = omega (arith, ints); high = omega (arith, ints) }
within SChar n h = record { low = omega (arith, ints); high = omega (arith, ints) }
within UChar n h = record { low = omega (arith, ints); high = omega (arith, ints) }
within Short n h = record { low = omega (arith, ints); high = omega (arith, ints) }
within UShort n h = record { low = omega (arith, ints); high = omega (arith, ints) }
within Int n h = record { low = omega (arith, ints); high = omega (arith, ints) }
within UInt n h = record { low = omega (arith, ints); high = omega (arith, ints) }
within Long n h = record { low = omega (arith, ints); high = omega (arith, ints) }
within ULong n h = record { low = omega (arith, ints); high = omega (arith, ints) }
within LLong n h = record { low = omega (arith, ints); high = omega (arith, ints) }
within ULLong n h = record { low = omega (arith, ints); high = omega (arith, ints) }

-- no number of a type is further from 0 than this
pub size_of_number : (t : IntType) (n : ℤ) → HasNumber t n → nat_abs n ≤ 2 ^ 64 - 1
size_of_number Char n h = omega (arith, ints)
size_of_number SChar n h = omega (arith, ints)
size_of_number UChar n h = omega (arith, ints)
size_of_number Short n h = omega (arith, ints)
size_of_number UShort n h = omega (arith, ints)
size_of_number Int n h = omega (arith, ints)
size_of_number UInt n h = omega (arith, ints)
size_of_number Long n h = omega (arith, ints)
size_of_number ULong n h = omega (arith, ints)
size_of_number LLong n h = omega (arith, ints)
size_of_number ULLong n h = omega (arith, ints)

pub size_of_signed : (t : IntType) (n : ℤ) → is_signed t ≡ true → HasNumber t n → nat_abs n ≤ 2 ^ 63
size_of_signed Char n s h = omega (arith, ints)
size_of_signed SChar n s h = omega (arith, ints)
size_of_signed UChar n s h = absurd (cc)
size_of_signed Short n s h = omega (arith, ints)
size_of_signed UShort n s h = absurd (cc)
size_of_signed Int n s h = omega (arith, ints)
size_of_signed UInt n s h = absurd (cc)
size_of_signed Long n s h = omega (arith, ints)
size_of_signed ULong n s h = absurd (cc)
size_of_signed LLong n s h = omega (arith, ints)
size_of_signed ULLong n s h = absurd (cc)

pub width_some : (t : IntType) → 0 < width t
width_some Char = lit< tt
width_some SChar = lit< tt
width_some UChar = lit< tt
width_some Short = lit< tt
width_some UShort = lit< tt
width_some Int = lit< tt
width_some UInt = lit< tt
width_some Long = lit< tt
width_some ULong = lit< tt
width_some LLong = lit< tt
width_some ULLong = lit< tt

pub width_few : (t : IntType) → width t ≤ 64
width_few Char = lit≤ tt
width_few SChar = lit≤ tt
width_few UChar = lit≤ tt
width_few Short = lit≤ tt
width_few UShort = lit≤ tt
width_few Int = lit≤ tt
width_few UInt = lit≤ tt
width_few Long = lit≤ tt
width_few ULong = lit≤ tt
width_few LLong = lit≤ tt
width_few ULLong = lit≤ tt

-- products do not need more than 128 bits
pub signed_product : (t : IntType) (a b : ℤ) → is_signed t ≡ true → HasNumber t a → HasNumber t b → FitsSigned w128 (a *ℤ b)
signed_product t a b s h k = fits_signed_mul w128 a b (2 ^ 63) (2 ^ 63) (size_of_signed t a s h) (size_of_signed t b s k) (lit< tt)

pub shifted_product : (t : IntType) (a : ℤ) (k : ℕ) → HasNumber t a → k < 64 → FitsSigned w128 (a *ℤ pos (2 ^ k))
shifted_product t a k h l = fits_signed_mul w128 a (pos (2 ^ k)) (2 ^ 64 - 1) (2 ^ 63) (size_of_number t a h)
    (let below : k ≤ 63 = omega arith in let g : 2 ^ k ≤ 2 ^ 63 = pow-le-pow_right {n = 2} (lit< tt) {i = k} {j = 63} below in g) (lit< tt)

-- what the code's product is
pub product_is : (w : Width) (a b : ℤ) → FitsSigned w a → FitsSigned w b → FitsSigned w (a *ℤ b) → to_z w (of_z w (to_z w (of_z w a) *ℤ to_z w (of_z w b)))
    ≡ a *ℤ b
product_is w a b f g h = rw (to_z-of_z w a f) (rw (to_z-of_z w b g) (to_z-of_z w (a *ℤ b) h))

-- a quotient is no further from 0 than the dividend
pub size_of_quotient : (a b : ℤ) → nat_abs (int_div a b) ≤ nat_abs a
size_of_quotient (pos a) (pos b) = div-le_self a b
size_of_quotient (pos a) (negsuc b) = omega (arith, ints, div-le_self a (suc b))
size_of_quotient (negsuc a) (pos b) = omega (arith, ints, div-le_self (suc a) b)
size_of_quotient (negsuc a) (negsuc b) = div-le_self (suc a) (suc b)

not_below : (k : ℕ) → int_lt (pos k) (pos 0) ≡ true → ⊥
not_below k h = grind (arith, ints)

-- the bits of a negative number, from the least number of its type
pub bits_of_negative : (t : IntType) (n : ℤ) → HasNumber t n → int_lt n (pos 0) ≡ true → n -ℤ (pos 2 *ℤ least t) ≡ pos (bits_in t n)
bits_of_negative Char (pos k) h l = absurd (not_below k l)
bits_of_negative Char (negsuc k) h l = omega (arith, ints)
bits_of_negative SChar (pos k) h l = absurd (not_below k l)
bits_of_negative SChar (negsuc k) h l = omega (arith, ints)
bits_of_negative UChar (pos k) h l = absurd (not_below k l)
bits_of_negative UChar (negsuc k) h l = omega (arith, ints)
bits_of_negative Short (pos k) h l = absurd (not_below k l)
bits_of_negative Short (negsuc k) h l = omega (arith, ints)
bits_of_negative UShort (pos k) h l = absurd (not_below k l)
bits_of_negative UShort (negsuc k) h l = omega (arith, ints)
bits_of_negative Int (pos k) h l = absurd (not_below k l)
bits_of_negative Int (negsuc k) h l = omega (arith, ints)
bits_of_negative UInt (pos k) h l = absurd (not_below k l)
bits_of_negative UInt (negsuc k) h l = omega (arith, ints)
bits_of_negative Long (pos k) h l = absurd (not_below k l)
bits_of_negative Long (negsuc k) h l = omega (arith, ints)
bits_of_negative ULong (pos k) h l = absurd (not_below k l)
bits_of_negative ULong (negsuc k) h l = omega (arith, ints)
bits_of_negative LLong (pos k) h l = absurd (not_below k l)
bits_of_negative LLong (negsuc k) h l = omega (arith, ints)
bits_of_negative ULLong (pos k) h l = absurd (not_below k l)
bits_of_negative ULLong (negsuc k) h l = omega (arith, ints)

pub bits_below : (t : IntType) (n : ℤ) → HasNumber t n → int_lt n (pos 0) ≡ true → bits_in t n < 2 ^ 64
bits_below Char (pos k) h l = absurd (not_below k l)
bits_below Char (negsuc k) h l = omega (arith, ints)
bits_below SChar (pos k) h l = absurd (not_below k l)
bits_below SChar (negsuc k) h l = omega (arith, ints)
bits_below UChar (pos k) h l = absurd (not_below k l)
bits_below UChar (negsuc k) h l = omega (arith, ints)
bits_below Short (pos k) h l = absurd (not_below k l)
bits_below Short (negsuc k) h l = omega (arith, ints)
bits_below UShort (pos k) h l = absurd (not_below k l)
bits_below UShort (negsuc k) h l = omega (arith, ints)
bits_below Int (pos k) h l = absurd (not_below k l)
bits_below Int (negsuc k) h l = omega (arith, ints)
bits_below UInt (pos k) h l = absurd (not_below k l)
bits_below UInt (negsuc k) h l = omega (arith, ints)
bits_below Long (pos k) h l = absurd (not_below k l)
bits_below Long (negsuc k) h l = omega (arith, ints)
bits_below ULong (pos k) h l = absurd (not_below k l)
bits_below ULong (negsuc k) h l = omega (arith, ints)
bits_below LLong (pos k) h l = absurd (not_below k l)
bits_below LLong (negsuc k) h l = omega (arith, ints)
bits_below ULLong (pos k) h l = absurd (not_below k l)
bits_below ULLong (negsuc k) h l = omega (arith, ints)

double_fits : (t : IntType) → FitsSigned w128 (pos 2 *ℤ least t)
double_fits Char = omega (arith, ints)
double_fits SChar = omega (arith, ints)
double_fits UChar = omega (arith, ints)
double_fits Short = omega (arith, ints)
double_fits UShort = omega (arith, ints)
double_fits Int = omega (arith, ints)
double_fits UInt = omega (arith, ints)
double_fits Long = omega (arith, ints)
double_fits ULong = omega (arith, ints)
double_fits LLong = omega (arith, ints)
double_fits ULLong = omega (arith, ints)

-- what the code's bits are
pub code_bits : (t : IntType) (n l : ℤ) → HasNumber t n → int_lt n (pos 0) ≡ true → FitsSigned w128 n → FitsSigned w128 l → l ≡ least t
    → to_z w128 (of_z w128 (to_z w128 (of_z w128 n) -ℤ to_z w128 (of_z w128 (pos 2 *ℤ to_z w128 (of_z w128 l))))) ≡ pos (bits_in t n)
code_bits t n l h low fn fl e =
    let twice : FitsSigned w128 (pos 2 *ℤ l) = subst (λ (x : ℤ). FitsSigned w128 (pos 2 *ℤ x)) (sym e) (double_fits t) in
    let is : n -ℤ (pos 2 *ℤ l) ≡ pos (bits_in t n) = ap (λ x. n -ℤ (pos 2 *ℤ x)) e ∙ bits_of_negative t n h low in
    let fits : FitsSigned w128 (pos (bits_in t n)) = omega (arith, ints, bits_below t n h low) in
    rw (to_z-of_z w128 n fn) (rw (to_z-of_z w128 l fl) (rw (to_z-of_z w128 (pos 2 *ℤ l) twice) (rw is (to_z-of_z w128 (pos (bits_in t n)) fits))))

-- what the code's quotient of a difference is
pub code_difference : (p q f g h : ℤ) (e : ℕ) → FitsSigned w64 p → FitsSigned w64 q → e < 2 ^ 64 → f ≡ p → g ≡ q → h ≡ pos e
    → to_z w128 (of_z w128 (int_div (to_z w128 (of_z w128 (to_z w128 (of_z w128 f) -ℤ to_z w128 (of_z w128 g)))) (to_z w128 (of_z w128 h))))
    ≡ int_div (p -ℤ q) (pos e)
code_difference p q f g h e fp fq fe is same of =
    let bytes : to_z w128 (of_z w128 p) -ℤ to_z w128 (of_z w128 q) ≡ p -ℤ q = omega (arith, ints) in
    let few : FitsSigned w128 (p -ℤ q) = omega (arith, ints) in
    let element : FitsSigned w128 (pos e) = omega (arith, ints) in
    let fits : FitsSigned w128 (int_div (p -ℤ q) (pos e)) = omega (arith, ints, size_of_quotient (p -ℤ q) (pos e)) in
    rw is (rw same (rw of (rw bytes (quot_is w128 (p -ℤ q) (pos e) few element fits))))
