-- What the code's numbers are, and which it does not hold.
use Rattle.std.proofs.Common.{[], ◌⊎◌, inl, inr, ◌≡◌, ℕ, ℤ, ◌+ℤ◌, ◌*ℤ◌, ◌-ℤ◌, ◌*◌, ◌^◌, ◌<◌, ◌≤◌, ◌%◌, ◌≤ℤ◌, ◌<ℤ◌, pos, negsuc, Bool, true, false, refl, sym, ap, ◌∙◌, arith, FitsSigned, to_z}
use Rattle.std.specs.Prelude.{◌&&◌, nat_le, int_div, int_le, int_lt, Some}
use Rattle.std.specs.Int.{w128}
use Rattle.std.proofs.Math.Nat.{mod-eq_of_lt}
use Rattle.std.proofs.Math.Pow.{pow-lt}
use Rattle.std.proofs.lemmas.Int.{ints, to_z-of_z}
use Rattle.std.proofs.lemmas.Bool.Decides.{leb_tells}
use Rattle.c_syntax_written.specs.declared.int_type.IntType.{IntType}
use Rattle.c_syntax_written.specs.declared.int_type.IntType.TheVariants.{Char, SChar, UChar, Short, UShort, Int, UInt, Long, ULong, LLong, ULLong}
use Rattle.c_syntax_written.specs.Integer.{HasNumber, width}
use Rattle.c_syntax.specs.declared.alarm.WrongKind.{WrongKind}
use Rattle.c_syntax.specs.declared.operator.Arithmetic.{Arithmetic}
use Rattle.c_syntax.specs.declared.operator.Arithmetic.TheVariants.{Multiply, Divide, Remainder, Add, Subtract, BitAnd, BitXor, BitOr}
use Rattle.c_syntax.specs.declared.operator.Shift.{Shift}
use Rattle.c_syntax.specs.declared.operator.TBinaryOp.TheVariants as binaries
use Rattle.c_syntax.specs.Operand.{Operand}
use Rattle.block_mem.specs.declared.types.Value.{Value}
use Rattle.block_mem.specs.declared.types.Value.TheVariants as values
use Rattle.c_values.specs.Looks.{Judged, Passes, FailsAs, NoOperand, Gives, GoesWrong, judge, outcome}
use Rattle.c_values.specs.Operators.{binary_looks}
use Rattle.c_values.specs.Places.{ObjectMemory}
use Rattle.c_values.proofs.Ranges.{signed_product, size_of_number, size_of_quotient, width_few}
use Rattle.csharp.specs.States.{takes_right}
use Rattle.csharp_state.specs.Unheld.{is_no_number, wraps_past}

-- memory of no objects
abbrev pub nothing : ObjectMemory
nothing = record { blocks = []; owners = []; places = [] }

-- an operator that gives a value gives its result
pub given : (j : Judged) (x v : Value) → outcome j (Some x) ≡ Gives v → v ≡ x
given Passes x v e = cc
given (FailsAs k o) x v e = absurd (cc)
given NoOperand x v e = absurd (cc)

-- a power of two below the greatest i128, as the code shifts it
pub shifted_one : (k : ℕ) → k < 127 → to_z w128 (1 * 2 ^ k % 2 ^ 128) ≡ pos (2 ^ k)
shifted_one k h =
    let small : 2 ^ k < 2 ^ 127 = pow-lt h in
    let fits : FitsSigned w128 (pos (2 ^ k)) = omega (arith, ints) in
    let one : 1 * 2 ^ k ≡ 2 ^ k = omega arith in
    let less : 1 * 2 ^ k < 2 ^ 128 = omega (arith, small) in
    ap (to_z w128) (mod-eq_of_lt less ∙ one) ∙ to_z-of_z w128 (pos (2 ^ k)) fits

-- ---- numbers of 128 bits

within_by : (k n : ℕ) → ((nat_le k n ≡ true) × (k ≤ n)) ⊎ ((nat_le k n ≡ false) × (n < k)) → n < k → nat_le k n ≡ false
within_by k n (inl (e, h)) less = absurd (omega arith)
within_by k n (inr (e, h)) less = e

pub in_number : (n : ℤ) → FitsSigned w128 n → is_no_number n ≡ false
in_number (pos k) f = within_by (2 ^ 127) k (leb_tells (2 ^ 127) k) (omega (arith, ints))
in_number (negsuc k) f = within_by (2 ^ 127) k (leb_tells (2 ^ 127) k) (omega (arith, ints))

-- ---- numbers of an operator's type

unlike : (b : Bool) → b ≡ true → b ≡ false → ⊥
unlike b e f = let nothing_is : true ≡ false = sym e ∙ f in cc

quotient_fits : (t : IntType) (a b : ℤ) → HasNumber t a → FitsSigned w128 (int_div a b)
quotient_fits t a b h =
    let few = size_of_number t a h in let less = size_of_quotient a b in
    omega (arith, ints)

sum_fits : (t : IntType) (a b : ℤ) → HasNumber t a → HasNumber t b → FitsSigned w128 (a +ℤ b)
sum_fits t a b h k = let m = size_of_number t a h in let n = size_of_number t b k in omega (arith, ints)

difference_fits : (t : IntType) (a b : ℤ) → HasNumber t a → HasNumber t b → FitsSigned w128 (a -ℤ b)
difference_fits t a b h k = let m = size_of_number t a h in let n = size_of_number t b k in omega (arith, ints)

abbrev passes : Arithmetic → IntType → ℤ → ℤ → Type 0
passes op t a b = judge [] (binary_looks nothing (binaries.Arithmetic op t) (values.Int t a) (values.Int t b)) ≡ Passes

product_passes : (t : IntType) (a b : ℤ) → HasNumber t a → HasNumber t b → is_no_number (a *ℤ b) ≡ true → passes Multiply t a b
product_passes Char a b h k w = absurd (unlike (is_no_number (a *ℤ b)) w (in_number (a *ℤ b) (signed_product Char a b refl h k)))
product_passes SChar a b h k w = absurd (unlike (is_no_number (a *ℤ b)) w (in_number (a *ℤ b) (signed_product SChar a b refl h k)))
product_passes UChar a b h k w = refl
product_passes Short a b h k w = absurd (unlike (is_no_number (a *ℤ b)) w (in_number (a *ℤ b) (signed_product Short a b refl h k)))
product_passes UShort a b h k w = refl
product_passes Int a b h k w = absurd (unlike (is_no_number (a *ℤ b)) w (in_number (a *ℤ b) (signed_product Int a b refl h k)))
product_passes UInt a b h k w = refl
product_passes Long a b h k w = absurd (unlike (is_no_number (a *ℤ b)) w (in_number (a *ℤ b) (signed_product Long a b refl h k)))
product_passes ULong a b h k w = refl
product_passes LLong a b h k w = absurd (unlike (is_no_number (a *ℤ b)) w (in_number (a *ℤ b) (signed_product LLong a b refl h k)))
product_passes ULLong a b h k w = refl

-- an operator on numbers of its type whose exact number is no i128 has no check that fails
pub typed_passes : (op : Arithmetic) (t : IntType) (a b : ℤ) → HasNumber t a → HasNumber t b → wraps_past op a b ≡ true → passes op t a b
typed_passes Multiply t a b h k w = product_passes t a b h k w
typed_passes Divide t a b h k w = absurd (unlike (is_no_number (int_div a b)) w (in_number (int_div a b) (quotient_fits t a b h)))
typed_passes Remainder t a b h k w = absurd (unlike (is_no_number (int_div a b)) w (in_number (int_div a b) (quotient_fits t a b h)))
typed_passes Add t a b h k w = absurd (unlike (is_no_number (a +ℤ b)) w (in_number (a +ℤ b) (sum_fits t a b h k)))
typed_passes Subtract t a b h k w = absurd (unlike (is_no_number (a -ℤ b)) w (in_number (a -ℤ b) (difference_fits t a b h k)))
typed_passes BitAnd t a b h k w = refl
typed_passes BitXor t a b h k w = refl
typed_passes BitOr t a b h k w = refl

pub not_wrong : (j : Judged) (v : Value) (k : WrongKind) (x : Operand) → j ≡ Passes → outcome j (Some v) ≡ GoesWrong k x → ⊥
not_wrong j v k x p e = let differ : Gives v ≡ GoesWrong k x = rw p at e in cc

-- ---- amounts

and_parts : (a b : Bool) → a && b ≡ true → (a ≡ true) × (b ≡ true)
and_parts true b e = (refl, e)
and_parts false b e = absurd (cc)

width_few_z : (t : IntType) (n : ℤ) → n <ℤ pos (width t) → n <ℤ pos 64
width_few_z t n h = let few = width_few t in omega (arith, ints)

-- an amount that a shift takes is from 0 to below 64
pub amount_of : (way : Shift) (t u : IntType) (n : ℤ) → takes_right (binaries.Shift way t) (values.Int u n) ≡ true → (pos 0 ≤ℤ n) × (n <ℤ pos 64)
amount_of way t u n e =
    let both = and_parts (int_le (pos 0) n) (int_lt n (pos (width t))) e in
    let low : pos 0 ≤ℤ n = grind (arith, ints) in
    let high : n <ℤ pos (width t) = grind (arith, ints) in
    (low, width_few_z t n high)
