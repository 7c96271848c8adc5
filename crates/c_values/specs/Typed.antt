-- Operands and results of the operators' types.
use Rattle.std.specs.Prelude.{◌≡◌, ◌^◌, ◌<◌, ◌≤◌, ℕ, Option, Some, None, FitsSigned}
use Rattle.std.specs.Int.{w64}
use Rattle.c_syntax_written.specs.declared.int_type.IntType.TheVariants as ints
use Rattle.c_syntax_written.specs.Integer.{HasNumber}
use Rattle.c_syntax.specs.declared.alarm.Spot.{Spot}
use Rattle.c_syntax.specs.declared.alarm.Spot.TheVariants as spots
use Rattle.c_syntax.specs.declared.operator.TUnaryOp.{TUnaryOp}
use Rattle.c_syntax.specs.declared.operator.TUnaryOp.TheVariants as unaries
use Rattle.c_syntax.specs.declared.operator.TBinaryOp.{TBinaryOp}
use Rattle.c_syntax.specs.declared.operator.TBinaryOp.TheVariants as binaries
use Rattle.block_mem.specs.declared.types.Scalar.{Scalar}
use Rattle.block_mem.specs.declared.types.Scalar.TheVariants as scalars
use Rattle.block_mem.specs.declared.types.Value.{Value}
use Rattle.block_mem.specs.declared.types.Value.TheVariants as values
use Rattle.block_mem.specs.Bytes.{IsOf}
use Rattle.c_values.specs.declared.values.Given.{Given}
use Rattle.c_values.specs.declared.values.Given.TheVariants as givens
use Rattle.c_values.specs.Looks.{Outcome, Gives, GoesWrong, IsStuck}

-- a number of some integer type
abbrev pub IsInteger : Value → Type 0
IsInteger (values.Int t n) = HasNumber t n
IsInteger v = ⊥

-- an element has a byte, and at most 2 to the 40
abbrev pub IsElement : ℕ → Type 0
IsElement element = (0 < element) × (element ≤ 2 ^ 40)

-- what an operator takes (C11 6.5.5p2, 6.5.6p2 and p3, 6.5.7p2, 6.5.8p2, 6.5.9p2, 6.5.10 to 6.5.12)
abbrev pub TakesBoth : TBinaryOp → Value → Value → Type 0
TakesBoth (binaries.Arithmetic op t) v u = IsOf (scalars.Int t) v × IsOf (scalars.Int t) u
TakesBoth (binaries.Shift way t) v u = IsOf (scalars.Int t) v × IsInteger u
TakesBoth (binaries.CompareInts c t) v u = IsOf (scalars.Int t) v × IsOf (scalars.Int t) u
TakesBoth (binaries.ComparePointers c) v u = IsOf scalars.Pointer v × IsOf scalars.Pointer u
TakesBoth (binaries.PointerPlusInt element) v u = IsOf scalars.Pointer v × IsInteger u × IsElement element
TakesBoth (binaries.IntPlusPointer element) v u = IsOf scalars.Pointer u × IsInteger v × IsElement element
TakesBoth (binaries.PointerMinusInt element) v u = IsOf scalars.Pointer v × IsInteger u × IsElement element
TakesBoth (binaries.PointerMinusPointer element) v u = IsOf scalars.Pointer v × IsOf scalars.Pointer u × IsElement element

-- an operator takes two numbers
abbrev pub TakesNumbers : TBinaryOp → Type 0
TakesNumbers (binaries.Arithmetic op t) = Unit {0}
TakesNumbers (binaries.Shift way t) = Unit {0}
TakesNumbers (binaries.CompareInts c t) = Unit {0}
TakesNumbers op = ⊥

-- C11 6.5.3.3p1
abbrev pub TakesOne : TUnaryOp → Scalar → Value → Type 0
TakesOne (unaries.Plus t) ty v = (ty ≡ scalars.Int t) × IsOf ty v
TakesOne (unaries.Minus t) ty v = (ty ≡ scalars.Int t) × IsOf ty v
TakesOne (unaries.Complement t) ty v = (ty ≡ scalars.Int t) × IsOf ty v
TakesOne unaries.Not ty v = IsOf ty v

-- the type of an operator's value
abbrev pub binary_type : TBinaryOp → Scalar
binary_type (binaries.Arithmetic op t) = scalars.Int t
binary_type (binaries.Shift way t) = scalars.Int t
binary_type (binaries.CompareInts c t) = scalars.Int ints.Int
binary_type (binaries.ComparePointers c) = scalars.Int ints.Int
binary_type (binaries.PointerPlusInt element) = scalars.Pointer
binary_type (binaries.IntPlusPointer element) = scalars.Pointer
binary_type (binaries.PointerMinusInt element) = scalars.Pointer
binary_type (binaries.PointerMinusPointer element) = scalars.Int ints.Long

abbrev pub unary_type : TUnaryOp → Scalar
unary_type (unaries.Plus t) = scalars.Int t
unary_type (unaries.Minus t) = scalars.Int t
unary_type (unaries.Complement t) = scalars.Int t
unary_type unaries.Not = scalars.Int ints.Int

-- a value of this type, or what is wrong
abbrev pub IsSettled : Scalar → Outcome → Type 0
IsSettled ty (Gives v) = IsOf ty v
IsSettled ty (GoesWrong k x) = Unit {0}
IsSettled ty IsStuck = ⊥

-- an integer is converted to an integer type, a pointer to a pointer type, and anything to void (C11 6.3.1.3, 6.3.2.2, 6.3.2.3)
abbrev pub IsConvertible : Option Scalar → Given → Type 0
IsConvertible None g = Unit {0}
IsConvertible (Some (scalars.Int t)) (givens.Value (values.Int u n)) = Unit {0}
IsConvertible (Some scalars.Pointer) (givens.Value (values.Ptr p)) = Unit {0}
IsConvertible (Some scalars.Pointer) (givens.Value values.Null) = Unit {0}
IsConvertible ty g = ⊥

-- the offset is one that a pointer may have
abbrev pub IsNear : Spot → Type 0
IsNear spots.Null = Unit {0}
IsNear spots.Dead = Unit {0}
IsNear (spots.At o d) = FitsSigned w64 d
