-- Expressions on integers as numeric domains take them: each node with its type, and a variable for each temporary (this profile).
use Rattle.std.specs.Prelude.{ℕ, negsuc, List, Option, Some, None, option_map, option_and_then, slice_get}
use Rattle.c_syntax_written.specs.declared.int_type.IntType.TheVariants as ints
use Rattle.c_syntax_written.specs.Integer.{wrapped}
use Rattle.c_syntax.specs.declared.operator.Arithmetic.{Arithmetic}
use Rattle.c_syntax.specs.declared.operator.Arithmetic.TheVariants as arithmetics
use Rattle.c_syntax.specs.declared.operator.Shift.{Shift}
use Rattle.c_syntax.specs.declared.operator.Shift.TheVariants as shifts
use Rattle.c_syntax.specs.declared.operator.Comparison.{Comparison}
use Rattle.c_syntax.specs.declared.operator.Comparison.TheVariants as comparisons
use Rattle.c_syntax.specs.declared.operator.TUnaryOp.{TUnaryOp}
use Rattle.c_syntax.specs.declared.operator.TUnaryOp.TheVariants as unaries
use Rattle.c_syntax.specs.declared.operator.TBinaryOp.{TBinaryOp}
use Rattle.c_syntax.specs.declared.operator.TBinaryOp.TheVariants as binaries
use Rattle.block_mem.specs.declared.types.Scalar.{Scalar}
use Rattle.block_mem.specs.declared.types.Scalar.TheVariants as scalars
use Rattle.num_api.specs.declared.expr.NOp.{NOp}
use Rattle.num_api.specs.declared.expr.NOp.TheVariants as ops
use Rattle.machine_nums.specs.MExprs.{MExprTree}
use Rattle.machine_nums.specs.MExprs as numbers
use Rattle.csharp.specs.Trees.{CsExprTree, Const, Null, Temp, Address, Unary, Binary, Convert}

-- the operators on whole numbers whose wrapped results are those of C (C11 6.5.5 to 6.5.7, 6.5.10 to 6.5.12)
abbrev pub number_op : Arithmetic → NOp
number_op arithmetics.Multiply = ops.Mul
number_op arithmetics.Divide = ops.Quot
number_op arithmetics.Remainder = ops.Rem
number_op arithmetics.Add = ops.Add
number_op arithmetics.Subtract = ops.Sub
number_op arithmetics.BitAnd = ops.And
number_op arithmetics.BitXor = ops.Xor
number_op arithmetics.BitOr = ops.Or

abbrev pub shift_op : Shift → NOp
shift_op shifts.Left = ops.Shl
shift_op shifts.Right = ops.Shr

-- a comparison is an int (C11 6.5.8p6, 6.5.9p3)
abbrev pub compared : Comparison → MExprTree → MExprTree → MExprTree
compared comparisons.Less a b = numbers.Binary ops.Lt ints.Int a b
compared comparisons.Greater a b = numbers.Binary ops.Lt ints.Int b a
compared comparisons.AtMost a b = numbers.Binary ops.Le ints.Int a b
compared comparisons.AtLeast a b = numbers.Binary ops.Le ints.Int b a
compared comparisons.Equal a b = numbers.Binary ops.Eq ints.Int a b
compared comparisons.Unequal a b = numbers.Binary ops.Ne ints.Int a b

-- the complement changes each bit, as an exclusive or with all of them does (C11 6.5.3.3p4)
abbrev pub of_one : TUnaryOp → MExprTree → MExprTree
of_one (unaries.Plus t) a = numbers.Convert t a
of_one (unaries.Minus t) a = numbers.Unary ops.Neg t a
of_one (unaries.Complement t) a = numbers.Binary ops.Xor t a (numbers.Const t (wrapped t (negsuc 0)))
of_one unaries.Not a = numbers.Unary ops.Not ints.Int a

-- operators on pointers have no number
abbrev pub of_two : TBinaryOp → MExprTree → MExprTree → Option MExprTree
of_two (binaries.Arithmetic op t) a b = Some (numbers.Binary (number_op op) t a b)
of_two (binaries.Shift way t) a b = Some (numbers.Binary (shift_op way) t a b)
of_two (binaries.CompareInts op t) a b = Some (compared op a b)
of_two op a b = None

abbrev pub read : ℕ → Scalar → Option MExprTree
read d (scalars.Int t) = Some (numbers.Read d t)
read d scalars.Pointer = None

-- the expression, by the types of the temporaries; none where a part is no integer
abbrev pub number_expr : List Scalar → CsExprTree → Option MExprTree
number_expr types (Const t n) = Some (numbers.Const t n)
number_expr types Null = None
number_expr types (Temp d) = option_and_then (read d) (slice_get types d)
number_expr types (Address x) = None
number_expr types (Unary op e) = option_map (of_one op) (number_expr types e)
number_expr types (Binary op a b) = option_and_then (λ m. option_and_then (of_two op m) (number_expr types b)) (number_expr types a)
number_expr types (Convert t e) = option_map (numbers.Convert t) (number_expr types e)
