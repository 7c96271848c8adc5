-- The type at which the value of an expression is tested; `!`, `&&` and `||` are tested by their parts.
use Rattle.std.specs.Prelude.{Option, Some, None}
use Rattle.c_syntax_written.specs.declared.int_type.IntType.TheVariants as ints
use Rattle.c_syntax.specs.declared.operator.TUnaryOp.TheVariants as unaries
use Rattle.c_syntax.specs.TypedExpr.{TExprTree, Const, Null, Load, AddressOf, Decay, Whole, Unary, Binary, Convert, Assign, AssignStruct, Compound, Step, And, Or, Cond, Comma, Call, Any, Assume, Assert}
use Rattle.c_syntax.specs.TypedParts.{tlvalue_type}
use Rattle.block_mem.specs.declared.types.Scalar.{Scalar}
use Rattle.block_mem.specs.declared.types.Scalar.TheVariants as scalars
use Rattle.c_values.specs.Values.{scalar_of}
use Rattle.c_values.specs.Typed.{binary_type, unary_type}
use Rattle.lower_trees.specs.LowerExpr.{held_scalar, value_scalar}

abbrev pub tested_type : TExprTree → Option Scalar
tested_type (Const at t n) = Some (scalars.Int t)
tested_type (Null at ty) = Some scalars.Pointer
tested_type (Load at place) = scalar_of (tlvalue_type place)
tested_type (AddressOf at place) = Some scalars.Pointer
tested_type (Decay at place) = Some scalars.Pointer
tested_type (Whole at place) = None
tested_type (Unary at op a) = Some (unary_type op)
tested_type (Binary at op a b) = Some (binary_type op)
tested_type (Convert at ty a) = scalar_of ty
tested_type (Assign at place a) = scalar_of (tlvalue_type place)
tested_type (AssignStruct at extent place a) = None
tested_type (Compound at op place a) = scalar_of (tlvalue_type place)
tested_type (Step at time way stride place) = scalar_of (tlvalue_type place)
tested_type (And at a b) = Some (scalars.Int ints.Int)
tested_type (Or at a b) = Some (scalars.Int ints.Int)
tested_type (Cond at ty t a b) = held_scalar ty
tested_type (Comma at a b) = value_scalar b
tested_type (Call at f ty used args) = scalar_of ty
tested_type (Any at t) = Some (scalars.Int t)
tested_type (Assume at a) = None
tested_type (Assert at a) = None

-- an expression that is tested by its value
abbrev pub IsTestedByValue : TExprTree → Type 0
IsTestedByValue (Unary at unaries.Not a) = ⊥
IsTestedByValue (And at a b) = ⊥
IsTestedByValue (Or at a b) = ⊥
IsTestedByValue e = Unit {0}

-- an expression that is copied from as its value tells
abbrev pub IsCopiedByValue : TExprTree → Type 0
IsCopiedByValue (Whole at place) = ⊥
IsCopiedByValue (AssignStruct at extent place a) = ⊥
IsCopiedByValue (Cond at ty t a b) = ⊥
IsCopiedByValue (Comma at a b) = ⊥
IsCopiedByValue e = Unit {0}
