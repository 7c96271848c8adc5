-- Numbers of types and results of operators on them are numbers that ranges can have as ends.
use Rattle.std.proofs.Common.{◌≡◌, ◌≢◌, ◌≤◌, ◌<◌, ◌^◌, ◌-◌, ℕ, ℤ, pos, negsuc, suc, ◌+ℤ◌, ◌-ℤ◌, ◌*ℤ◌, neg_ℤ, arith, refl, subst, Bool, true, false, Some, None, zero}
use Rattle.std.specs.Prelude.{if◌then◌else◌}
use Rattle.std.specs.Int.RustNames.{FitsSigned, int_div, int_rem, unsigned_abs}
use Rattle.std.specs.Ordering.{int_eq}
use mir.Syntax.{w128}
use Rattle.std.proofs.lemmas.Int.{ints, fits_signed_from_abs, fits_signed_mul, rem_below}
use Rattle.std.proofs.lemmas.Bool.Decides.{Decides-int_eq}
use Rattle.std.proofs.lemmas.Option.{none-some}
use Rattle.std.proofs.Math.Nat.{div-le_self, pow-le-pow_right}
use Rattle.c_syntax_written.specs.declared.int_type.IntType.{IntType}
use Rattle.c_syntax_written.specs.declared.int_type.IntType.TheVariants as types
use Rattle.c_syntax_written.specs.Integer.{HasNumber}
use Rattle.c_syntax.specs.declared.operator.Arithmetic.{Arithmetic}
use Rattle.c_syntax.specs.declared.operator.Arithmetic.TheVariants.{Multiply, Divide, Remainder, Add, Subtract, BitAnd, BitXor, BitOr}
use Rattle.num_api.specs.declared.expr.NOp.TheVariants as ops
use Rattle.num_api.specs.Value.{binary_value}
use Rattle.intervals.proofs.BitPoints.{value_fits}
use Rattle.plain_runs.specs.Numbers.{number_op}

-- no number of a type is greater in size
pub size_of_number : (t : IntType) (n : ℤ) → HasNumber t n → unsigned_abs n ≤ 2 ^ 64 - 1
size_of_number types.Char n h = omega (arith, ints)
size_of_number types.SChar n h = omega (arith, ints)
size_of_number types.UChar n h = omega (arith, ints)
size_of_number types.Short n h = omega (arith, ints)
size_of_number types.UShort n h = omega (arith, ints)
size_of_number types.Int n h = omega (arith, ints)
size_of_number types.UInt n h = omega (arith, ints)
size_of_number types.Long n h = omega (arith, ints)
size_of_number types.ULong n h = omega (arith, ints)
size_of_number types.LLong n h = omega (arith, ints)
size_of_number types.ULLong n h = omega (arith, ints)

pub number_fits : (t : IntType) (n : ℤ) → HasNumber t n → FitsSigned w128 n
number_fits t n h = let s = size_of_number t n h in fits_signed_from_abs w128 n (omega arith)

pub quotient_size : (a b : ℤ) → unsigned_abs (int_div a b) ≤ unsigned_abs a
quotient_size (pos a) (pos b) = omega (arith, ints, div-le_self a b)
quotient_size (pos a) (negsuc b) = omega (arith, ints, div-le_self a (suc b))
quotient_size (negsuc a) (pos b) = omega (arith, ints, div-le_self (suc a) b)
quotient_size (negsuc a) (negsuc b) = omega (arith, ints, div-le_self (suc a) (suc b))

pub quotient_fits : (t : IntType) (a b : ℤ) → HasNumber t a → FitsSigned w128 (int_div a b)
quotient_fits t a b h = let s = size_of_number t a h in let q = quotient_size a b in fits_signed_from_abs w128 (int_div a b) (omega arith)

remainder_fits : (t : IntType) (a b : ℤ) → HasNumber t b → b ≢ pos 0 → FitsSigned w128 (int_rem a b)
remainder_fits t a b h ne =
    let s = size_of_number t b h in let some : 0 < unsigned_abs b = above b ne in let r = rem_below a b some in
    fits_signed_from_abs w128 (int_rem a b) (omega arith)
  where
    above : (b : ℤ) → b ≢ pos 0 → 0 < unsigned_abs b
    above (pos zero) ne = absurd (ne refl)
    above (pos (suc n)) ne = omega (arith, ints)
    above (negsuc n) ne = omega (arith, ints)

unless_zero : (b : Bool) (o n : ℤ) (P : ℤ → Type 0) → (b ≡ false → P o) → (if b then None else Some o) ≡ Some n → P n
unless_zero true o n P h e = absurd (none-some n e)
unless_zero false o n P h e = let same : o ≡ n = cc in subst P same (h refl)

not_zero : (b : ℤ) → int_eq b (pos 0) ≡ false → b ≢ pos 0
not_zero b e same = let yes = (Decides-int_eq b (pos 0)).1 same in absurd (cc)

pub sum_fits : (t : IntType) (a b : ℤ) → HasNumber t a → HasNumber t b → FitsSigned w128 (a +ℤ b)
sum_fits t a b h k = let s = size_of_number t a h in let u = size_of_number t b k in omega (arith, ints)

pub difference_fits : (t : IntType) (a b : ℤ) → HasNumber t a → HasNumber t b → FitsSigned w128 (a -ℤ b)
difference_fits t a b h k = let s = size_of_number t a h in let u = size_of_number t b k in omega (arith, ints)

-- results but for products
pub result_fits : (op : Arithmetic) (t : IntType) (a b n : ℤ) → op ≢ Multiply → HasNumber t a → HasNumber t b → binary_value (number_op op) a b ≡ Some n
    → FitsSigned w128 n
result_fits Multiply t a b n ne h k e = absurd (ne refl)
result_fits Divide t a b n ne h k e = unless_zero (int_eq b (pos 0)) (int_div a b) n (FitsSigned w128) (λ z. quotient_fits t a b h) e
result_fits Remainder t a b n ne h k e =
    unless_zero (int_eq b (pos 0)) (int_rem a b) n (FitsSigned w128) (λ z. remainder_fits t a b k (not_zero b z)) e
result_fits Add t a b n ne h k e = let same : (a +ℤ b) ≡ n = cc in subst (FitsSigned w128) same (sum_fits t a b h k)
result_fits Subtract t a b n ne h k e = let same : (a -ℤ b) ≡ n = cc in subst (FitsSigned w128) same (difference_fits t a b h k)
result_fits BitAnd t a b n ne h k e = value_fits ops.And tt a b n (number_fits t a h) (number_fits t b k) e
result_fits BitXor t a b n ne h k e = value_fits ops.Xor tt a b n (number_fits t a h) (number_fits t b k) e
result_fits BitOr t a b n ne h k e = value_fits ops.Or tt a b n (number_fits t a h) (number_fits t b k) e

-- a number of a type, times a power below 2 to the 64
pub power_size : (k : ℕ) → k < 64 → unsigned_abs (pos (2 ^ k)) ≤ 2 ^ 63
power_size k h = pow-le-pow_right {n = 2} (omega arith) {i = k} {j = 63} (omega arith)

pub shifted_fits : (t : IntType) (a : ℤ) (k : ℕ) → HasNumber t a → k < 64 → FitsSigned w128 (a *ℤ pos (2 ^ k))
shifted_fits t a k h small = fits_signed_mul w128 a (pos (2 ^ k)) (2 ^ 64 - 1) (2 ^ 63) (size_of_number t a h) (power_size k small) (omega arith)

pub minus_fits : (t : IntType) (n : ℤ) → HasNumber t n → FitsSigned w128 (neg_ℤ n)
minus_fits t n h = let s = size_of_number t n h in omega (arith, ints)
