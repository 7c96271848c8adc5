-- Whether two expressions are one.
use Rattle.std.specs.Prelude.{Bool, true, false, ◌&&◌, ◌==◌}
use Rattle.std.specs.Ordering.{int_eq}
use Rattle.c_syntax_written.specs.declared.int_type.IntType.{IntType}
use Rattle.c_syntax_written.specs.declared.int_type.IntType.TheVariants as ints
use Rattle.c_syntax.specs.declared.operator.Arithmetic.{Arithmetic}
use Rattle.c_syntax.specs.declared.operator.Arithmetic.TheVariants as arithmetics
use Rattle.c_syntax.specs.declared.operator.Shift.{Shift}
use Rattle.c_syntax.specs.declared.operator.Shift.TheVariants as shifts
use Rattle.c_syntax.specs.declared.operator.Comparison.{Comparison}
use Rattle.c_syntax.specs.declared.operator.Comparison.TheVariants as comparisons
use Rattle.c_syntax.specs.declared.operator.TUnaryOp.{TUnaryOp}
use Rattle.c_syntax.specs.declared.operator.TUnaryOp.TheVariants as unaries
use Rattle.c_syntax.specs.declared.operator.TBinaryOp.{TBinaryOp}
use Rattle.c_syntax.specs.declared.operator.TBinaryOp.TheVariants as binaries
use Rattle.csharp.specs.Trees.{CsExprTree, Const, Null, Temp, Address, Unary, Binary, Convert}

-- types and operators, each with itself alone
abbrev pub is_same_type : IntType → IntType → Bool
is_same_type ints.Char ints.Char = true
is_same_type ints.SChar ints.SChar = true
is_same_type ints.UChar ints.UChar = true
is_same_type ints.Short ints.Short = true
is_same_type ints.UShort ints.UShort = true
is_same_type ints.Int ints.Int = true
is_same_type ints.UInt ints.UInt = true
is_same_type ints.Long ints.Long = true
is_same_type ints.ULong ints.ULong = true
is_same_type ints.LLong ints.LLong = true
is_same_type ints.ULLong ints.ULLong = true
is_same_type one other = false

abbrev pub is_same_arithmetic : Arithmetic → Arithmetic → Bool
is_same_arithmetic arithmetics.Multiply arithmetics.Multiply = true
is_same_arithmetic arithmetics.Divide arithmetics.Divide = true
is_same_arithmetic arithmetics.Remainder arithmetics.Remainder = true
is_same_arithmetic arithmetics.Add arithmetics.Add = true
is_same_arithmetic arithmetics.Subtract arithmetics.Subtract = true
is_same_arithmetic arithmetics.BitAnd arithmetics.BitAnd = true
is_same_arithmetic arithmetics.BitXor arithmetics.BitXor = true
is_same_arithmetic arithmetics.BitOr arithmetics.BitOr = true
is_same_arithmetic one other = false

abbrev pub is_same_shift : Shift → Shift → Bool
is_same_shift shifts.Left shifts.Left = true
is_same_shift shifts.Right shifts.Right = true
is_same_shift one other = false

abbrev pub is_same_comparison : Comparison → Comparison → Bool
is_same_comparison comparisons.Less comparisons.Less = true
is_same_comparison comparisons.Greater comparisons.Greater = true
is_same_comparison comparisons.AtMost comparisons.AtMost = true
is_same_comparison comparisons.AtLeast comparisons.AtLeast = true
is_same_comparison comparisons.Equal comparisons.Equal = true
is_same_comparison comparisons.Unequal comparisons.Unequal = true
is_same_comparison one other = false

abbrev pub is_same_unary : TUnaryOp → TUnaryOp → Bool
is_same_unary (unaries.Plus t) (unaries.Plus u) = is_same_type t u
is_same_unary (unaries.Minus t) (unaries.Minus u) = is_same_type t u
is_same_unary (unaries.Complement t) (unaries.Complement u) = is_same_type t u
is_same_unary unaries.Not unaries.Not = true
is_same_unary op other = false

abbrev pub is_same_binary : TBinaryOp → TBinaryOp → Bool
is_same_binary (binaries.Arithmetic op t) (binaries.Arithmetic other u) = is_same_arithmetic op other && is_same_type t u
is_same_binary (binaries.Shift way t) (binaries.Shift other u) = is_same_shift way other && is_same_type t u
is_same_binary (binaries.CompareInts op t) (binaries.CompareInts other u) = is_same_comparison op other && is_same_type t u
is_same_binary (binaries.ComparePointers op) (binaries.ComparePointers other) = is_same_comparison op other
is_same_binary (binaries.PointerPlusInt n) (binaries.PointerPlusInt m) = n == m
is_same_binary (binaries.IntPlusPointer n) (binaries.IntPlusPointer m) = n == m
is_same_binary (binaries.PointerMinusInt n) (binaries.PointerMinusInt m) = n == m
is_same_binary (binaries.PointerMinusPointer n) (binaries.PointerMinusPointer m) = n == m
is_same_binary op other = false

abbrev pub is_same_expr : CsExprTree → CsExprTree → Bool
is_same_expr (Const t n) (Const u m) = is_same_type t u && int_eq n m
is_same_expr Null Null = true
is_same_expr (Temp d) (Temp k) = d == k
is_same_expr (Address x) (Address y) = x == y
is_same_expr (Unary op e) (Unary other f) = is_same_unary op other && is_same_expr e f
is_same_expr (Binary op a b) (Binary other c d) = is_same_binary op other && is_same_expr a c && is_same_expr b d
is_same_expr (Convert t e) (Convert u f) = is_same_type t u && is_same_expr e f
is_same_expr e f = false
