-- Numbers of types are numbers of the code, and so is what operators come to on them.
use Rattle.std.proofs.Common.{◌⊎◌, inl, inr, ◌≡◌, ℕ, ℤ, ◌+ℤ◌, ◌*ℤ◌, ◌-ℤ◌, ◌^◌, ◌<◌, ◌≤◌, ◌≤ℤ◌, pos, negsuc, neg_ℤ, Bool, true, false, refl, arith, FitsSigned}
use Rattle.std.specs.Prelude.{◌&&◌, nat_le, int_div, int_le, int_lt, nat_abs}
use Rattle.std.specs.Int.{w128}
use Rattle.std.proofs.lemmas.Int.{ints as int_facts}
use Rattle.std.proofs.lemmas.Bool.Decides.{leb_tells}
use Rattle.c_syntax_written.specs.declared.int_type.IntType.{IntType}
use Rattle.c_syntax_written.specs.Integer.{HasNumber, greatest, is_signed, least, width}
use Rattle.c_syntax.specs.declared.operator.Arithmetic.{Arithmetic}
use Rattle.c_syntax.specs.declared.operator.Arithmetic.TheVariants.{Multiply, Divide, Remainder, Add, Subtract, BitAnd, BitXor, BitOr}
use Rattle.c_values.specs.Numbers.{exact_arithmetic, exact_shift}
use Rattle.c_values.proofs.Ranges.{shifted_product, signed_product, size_of_number, size_of_quotient, width_few, within}
use Rattle.csharp_state.specs.Unheld.{has_number, is_no_number}

-- ---- tests

pub and_false : (z : Bool) → (z && false) ≡ false
and_false true = refl
and_false false = refl

pub and_where : (z w : Bool) → (z ≡ true → w ≡ false) → (z && w) ≡ false
and_where true w h = h refl
and_where false w h = refl

pub and_true : (z w : Bool) → z ≡ true → w ≡ true → (z && w) ≡ true
and_true z w h g = rw (h, g) refl

pub and_parts : (z w : Bool) → (z && w) ≡ true → (z ≡ true) × (w ≡ true)
and_parts true w e = (refl, e)
and_parts false w e = absurd (cc)

-- ---- numbers

below : (k n : ℕ) → ((nat_le k n ≡ true) × (k ≤ n)) ⊎ ((nat_le k n ≡ false) × (n < k)) → n < k → nat_le k n ≡ false
below k n (inl (e, h)) less = absurd (omega arith)
below k n (inr (e, h)) less = e

-- an i128
pub is_number : (n : ℤ) → FitsSigned w128 n → is_no_number n ≡ false
is_number (pos k) f = below (2 ^ 127) k (leb_tells (2 ^ 127) k) (omega (arith, int_facts))
is_number (negsuc k) f = below (2 ^ 127) k (leb_tells (2 ^ 127) k) (omega (arith, int_facts))

int_le_is : (a b : ℤ) → a ≤ℤ b → int_le a b ≡ true
int_le_is a b h = grind (arith, int_facts)

pub has_own : (t : IntType) (n : ℤ) → HasNumber t n → has_number t n ≡ true
has_own t n h =
    let w = within t n h in
    and_true (int_le (least t) n) (int_le n (pos (greatest t))) (int_le_is (least t) n w.low) (int_le_is n (pos (greatest t)) w.high)

pub negated : (t : IntType) (n : ℤ) → HasNumber t n → is_no_number (neg_ℤ n) ≡ false
negated t n h = let few = size_of_number t n h in let fits : FitsSigned w128 (neg_ℤ n) = omega (arith, int_facts) in is_number (neg_ℤ n) fits

quotient_fits : (t : IntType) (a b : ℤ) → HasNumber t a → FitsSigned w128 (int_div a b)
quotient_fits t a b h = let few = size_of_number t a h in let less = size_of_quotient a b in omega (arith, int_facts)

-- the exact number at which a check of a signed operator's result looks
pub exact_is : (op : Arithmetic) (t : IntType) (a b : ℤ) → is_signed t ≡ true → HasNumber t a → HasNumber t b → is_no_number (exact_arithmetic op a b) ≡ false
exact_is Multiply t a b s h k = is_number (a *ℤ b) (signed_product t a b s h k)
exact_is Divide t a b s h k = is_number (int_div a b) (quotient_fits t a b h)
exact_is Remainder t a b s h k = is_number (int_div a b) (quotient_fits t a b h)
exact_is Add t a b s h k =
    let m = size_of_number t a h in let n = size_of_number t b k in
    let fits : FitsSigned w128 (a +ℤ b) = omega (arith, int_facts) in is_number (a +ℤ b) fits
exact_is Subtract t a b s h k =
    let m = size_of_number t a h in let n = size_of_number t b k in
    let fits : FitsSigned w128 (a -ℤ b) = omega (arith, int_facts) in is_number (a -ℤ b) fits
exact_is BitAnd t a b s h k = refl
exact_is BitXor t a b s h k = refl
exact_is BitOr t a b s h k = refl

few_bits : (w : ℕ) (b : ℤ) → w ≤ 64 → int_le (pos 0) b && int_lt b (pos w) ≡ true → nat_abs b < 64
few_bits w (pos k) h e = grind (arith, int_facts)
few_bits w (negsuc k) h e = absurd (cc)

-- a shift by an amount that is taken
pub shift_is : (t : IntType) (a b : ℤ) → HasNumber t a → int_le (pos 0) b && int_lt b (pos (width t)) ≡ true → is_no_number (exact_shift a b) ≡ false
shift_is t a b h e = is_number (exact_shift a b) (shifted_product t a (nat_abs b) h (few_bits (width t) b (width_few t) e))
