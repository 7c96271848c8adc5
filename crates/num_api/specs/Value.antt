-- The value of an expression under a valuation, where it has one. Operators are those of C on whole numbers, with no width.
use Rattle.std.specs.Prelude.{ℕ, ℤ, pos, negsuc, ◌^◌, ◌+ℤ◌, ◌-ℤ◌, ◌*ℤ◌, neg_ℤ, int_div, int_rem, bit_and, bit_or, bit_xor, List, Option, Some, None, IsSomeAnd, Bool, not, if◌then◌else◌}
use Rattle.std.specs.Int.{int_div_euclid}
use Rattle.std.specs.Int.RustNames.{int_le, int_lt, FitsSigned}
use Rattle.std.specs.Ordering.{int_eq}
use mir.Syntax.{w128}
use Rattle.num_api.specs.declared.expr.NOp.{NOp}
use Rattle.num_api.specs.declared.expr.NOp.TheVariants.{Neg, Not, Add, Sub, Mul, Quot, Rem, Shl, Shr, And, Or, Xor, Eq, Ne, Lt, Le}
use Rattle.num_api.specs.Exprs.{NExprTree, Const, Read, Unary, Binary}
use Rattle.ext_int.specs.Valuation.{value_at}

-- 1 where the test holds, and else 0
abbrev pub truth : Bool → ℤ
truth b = if b then pos 1 else pos 0

-- ---- two's complement of any size: negsuc a, the number -a - 1, has the bits that a has not

-- the bits of a that b has not
abbrev pub bits_without : ℕ → ℕ → ℕ
bits_without a b = bit_xor a (bit_and a b)

-- the bits that both have
abbrev pub bits_of_both : ℤ → ℤ → ℤ
bits_of_both (pos a) (pos b) = pos (bit_and a b)
bits_of_both (pos a) (negsuc b) = pos (bits_without a b)
bits_of_both (negsuc a) (pos b) = pos (bits_without b a)
bits_of_both (negsuc a) (negsuc b) = negsuc (bit_or a b)

-- the bits that one of them has
abbrev pub bits_of_either : ℤ → ℤ → ℤ
bits_of_either (pos a) (pos b) = pos (bit_or a b)
bits_of_either (pos a) (negsuc b) = negsuc (bits_without b a)
bits_of_either (negsuc a) (pos b) = negsuc (bits_without a b)
bits_of_either (negsuc a) (negsuc b) = negsuc (bit_and a b)

-- the bits that exactly one of them has
abbrev pub bits_of_one : ℤ → ℤ → ℤ
bits_of_one (pos a) (pos b) = pos (bit_xor a b)
bits_of_one (pos a) (negsuc b) = negsuc (bit_xor a b)
bits_of_one (negsuc a) (pos b) = negsuc (bit_xor a b)
bits_of_one (negsuc a) (negsuc b) = pos (bit_xor a b)

-- a left shift is a product by a power of two; a negative amount gives nothing
abbrev pub shifted_left : ℤ → ℤ → Option ℤ
shifted_left x (pos k) = Some (x *ℤ pos (2 ^ k))
shifted_left x (negsuc k) = None

-- a right shift is a quotient by a power of two that is rounded down; a negative amount gives nothing
abbrev pub shifted_right : ℤ → ℤ → Option ℤ
shifted_right x (pos k) = Some (int_div_euclid x (pos (2 ^ k)))
shifted_right x (negsuc k) = None

-- ---- operators

-- what an operator of one operand gives; one of two gives nothing
abbrev pub unary_value : NOp → ℤ → Option ℤ
unary_value Neg x = Some (neg_ℤ x)
unary_value Not x = Some (truth (int_eq x (pos 0)))
unary_value op x = None

-- what an operator of two operands gives; one of one gives nothing. A divisor of 0 gives nothing
abbrev pub binary_value : NOp → ℤ → ℤ → Option ℤ
binary_value Neg x y = None
binary_value Not x y = None
binary_value Add x y = Some (x +ℤ y)
binary_value Sub x y = Some (x -ℤ y)
binary_value Mul x y = Some (x *ℤ y)
binary_value Quot x y = if int_eq y (pos 0) then None else Some (int_div x y)
binary_value Rem x y = if int_eq y (pos 0) then None else Some (int_rem x y)
binary_value Shl x y = shifted_left x y
binary_value Shr x y = shifted_right x y
binary_value And x y = Some (bits_of_both x y)
binary_value Or x y = Some (bits_of_either x y)
binary_value Xor x y = Some (bits_of_one x y)
binary_value Eq x y = Some (truth (int_eq x y))
binary_value Ne x y = Some (truth (not (int_eq x y)))
binary_value Lt x y = Some (truth (int_lt x y))
binary_value Le x y = Some (truth (int_le x y))

-- ---- expressions

-- the operator on the operand's value, where it is there
abbrev pub of_one : {A : Type 0} → (A → Option A) → Option A → Option A
of_one f None = None
of_one f (Some x) = f x

-- the operator on both operands' values, where they are there
abbrev pub of_two : {A : Type 0} → (A → A → Option A) → Option A → Option A → Option A
of_two f None b = None
of_two f (Some x) None = None
of_two f (Some x) (Some y) = f x y

-- the value of an expression, where it and all its parts have one
abbrev pub value_of : List ℤ → NExprTree → Option ℤ
value_of v (Const n) = Some n
value_of v (Read x) = Some (value_at v x)
value_of v (Unary op a) = of_one (unary_value op) (value_of v a)
value_of v (Binary op a b) = of_two (binary_value op) (value_of v a) (value_of v b)

-- the expression and each of its parts has a value that is an i128
abbrev pub AllFit : List ℤ → NExprTree → Type 0
AllFit v (Const n) = FitsSigned w128 n
AllFit v (Read x) = FitsSigned w128 (value_at v x)
AllFit v (Unary op a) = IsSomeAnd (value_of v (Unary op a)) (FitsSigned w128) × AllFit v a
AllFit v (Binary op a b) = IsSomeAnd (value_of v (Binary op a b)) (FitsSigned w128) × AllFit v a × AllFit v b

-- something is so of each variable that the expression reads
abbrev pub OnVariables : (ℕ → Type 0) → NExprTree → Type 0
OnVariables P (Const n) = Unit {0}
OnVariables P (Read x) = P x
OnVariables P (Unary op a) = OnVariables P a
OnVariables P (Binary op a b) = OnVariables P a × OnVariables P b

-- the value has this truth: a number is true where it is not 0
abbrev pub has_truth : Bool → ℤ → Bool
has_truth wanted n = if wanted then not (int_eq n (pos 0)) else int_eq n (pos 0)
