-- The value of an expression of C under a valuation: each node wraps what it comes to into its type (C11 6.2.5p9, 6.3.1.3; this profile). What a
-- check asks of a signed result is not asked here.
use Rattle.std.specs.Prelude.{◌≢◌, ℤ, List, Option, Some, None, IfSome}
use Rattle.std.specs.Int.RustNames.{FitsSigned}
use mir.Syntax.{w128}
use Rattle.c_syntax_written.specs.declared.int_type.IntType.{IntType}
use Rattle.c_syntax_written.specs.Integer.{HasNumber, wrapped}
use Rattle.ext_int.specs.Valuation.{value_at}
use Rattle.num_api.specs.declared.expr.NOp.TheVariants.{Mul}
use Rattle.num_api.specs.Value.{unary_value, binary_value, of_one, of_two}
use Rattle.machine_nums.specs.MExprs.{MExprTree, Const, Read, Convert, Unary, Binary, type_of}

-- a result as a number of the type, where there is one
abbrev pub wrapped_value : IntType → Option ℤ → Option ℤ
wrapped_value t None = None
wrapped_value t (Some n) = Some (wrapped t n)

-- the exact result of the outermost node, over the values of its operands: a number that its type need not have
abbrev pub exact_value : List ℤ → MExprTree → Option ℤ
exact_value v (Const t n) = Some n
exact_value v (Read x t) = Some (value_at v x)
exact_value v (Convert t a) = wrapped_value (type_of a) (exact_value v a)
exact_value v (Unary op t a) = of_one (unary_value op) (wrapped_value (type_of a) (exact_value v a))
exact_value v (Binary op t a b) = of_two (binary_value op) (wrapped_value (type_of a) (exact_value v a)) (wrapped_value (type_of b) (exact_value v b))

-- the value: that result, wrapped into the type
abbrev pub machine_value : List ℤ → MExprTree → Option ℤ
machine_value v e = wrapped_value (type_of e) (exact_value v e)

-- the exact result of the node, where there is one, is a number of its type
abbrev pub FitsType : List ℤ → MExprTree → Type 0
FitsType v e = IfSome (exact_value v e) (HasNumber (type_of e))

-- so it is of each part but the outermost node
abbrev pub OperandsFit : List ℤ → MExprTree → Type 0
OperandsFit v (Const t n) = Unit {0}
OperandsFit v (Read x t) = Unit {0}
OperandsFit v (Convert t a) = FitsType v a × OperandsFit v a
OperandsFit v (Unary op t a) = FitsType v a × OperandsFit v a
OperandsFit v (Binary op t a b) = FitsType v a × OperandsFit v a × FitsType v b × OperandsFit v b

-- ---- numbers that the domains can name

-- the exact result of each part is an i128; of a product that is not asked, since of 64-bit numbers it need not be one
abbrev pub PartsFit : List ℤ → MExprTree → Type 0
PartsFit v (Const t n) = FitsSigned w128 n
PartsFit v (Read x t) = FitsSigned w128 (value_at v x)
PartsFit v (Convert t a) = PartsFit v a
PartsFit v (Unary op t a) = IfSome (exact_value v (Unary op t a)) (FitsSigned w128) × PartsFit v a
PartsFit v (Binary op t a b) = (op ≢ Mul → IfSome (exact_value v (Binary op t a b)) (FitsSigned w128)) × PartsFit v a × PartsFit v b
