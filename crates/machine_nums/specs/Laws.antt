-- What it means that an operator on whole numbers stands for one of C: its result at numbers of the type, wrapped into the type, is that of C's.
use Rattle.std.specs.Prelude.{◌≡◌, ◌≢◌, ℤ, pos, ◌≤ℤ◌, ◌⊎◌, Bool, true, false, Some, IsSomeAnd}
use Rattle.c_syntax_written.specs.declared.int_type.IntType.{IntType}
use Rattle.c_syntax_written.specs.Integer.{HasNumber, wrapped}
use Rattle.c_syntax.specs.declared.operator.Arithmetic.{Arithmetic}
use Rattle.c_syntax.specs.declared.operator.Arithmetic.TheVariants.{Divide, Remainder}
use Rattle.c_syntax.specs.declared.operator.Shift.{Shift}
use Rattle.c_syntax.specs.declared.operator.Comparison.{Comparison}
use Rattle.c_values.specs.Numbers.{arithmetic, shifted, compares}
use Rattle.num_api.specs.declared.expr.NOp.{NOp}
use Rattle.num_api.specs.Value.{binary_value, truth}

-- the operator divides
abbrev pub IsDivision : Arithmetic → Type 0
IsDivision op = (op ≡ Divide) ⊎ (op ≡ Remainder)

-- at all numbers of a type, but for a divisor of 0
abbrev pub StandsForArithmetic : Arithmetic → NOp → Type 0
StandsForArithmetic c op = (t : IntType) (a b : ℤ) → HasNumber t a → HasNumber t b → (IsDivision c → b ≢ pos 0) → IsSomeAnd (binary_value op a b)
    (λ n. wrapped t n ≡ arithmetic c t a b)

-- at all numbers of a type, and all amounts that are not negative
abbrev pub StandsForShift : Shift → NOp → Type 0
StandsForShift way op = (t : IntType) (a k : ℤ) → HasNumber t a → pos 0 ≤ℤ k → IsSomeAnd (binary_value op a k) (λ n. wrapped t n ≡ shifted way t a k)

-- 1 where C's comparison holds, and else 0; the operands may have to change their places
abbrev pub StandsForComparison : Comparison → NOp → Bool → Type 0
StandsForComparison c op false = (a b : ℤ) → binary_value op a b ≡ Some (truth (compares c a b))
StandsForComparison c op true = (a b : ℤ) → binary_value op b a ≡ Some (truth (compares c a b))
