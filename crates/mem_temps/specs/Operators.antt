-- What is asked of ranges that operators give.
use Rattle.std.specs.Prelude.{◌≡◌, ◌≢◌, ℕ, ℤ, pos, negsuc, ◌≤ℤ◌, ◌<ℤ◌, Some, Bool}
use Rattle.c_syntax_written.specs.declared.int_type.IntType.{IntType}
use Rattle.c_syntax_written.specs.declared.int_type.IntType.TheVariants.{Int}
use Rattle.c_syntax_written.specs.Integer.{width, wrapped}
use Rattle.c_syntax.specs.declared.operator.Arithmetic.{Arithmetic}
use Rattle.c_syntax.specs.declared.operator.Shift.{Shift}
use Rattle.c_syntax.specs.declared.operator.Comparison.{Comparison}
use Rattle.c_syntax.specs.declared.operator.TUnaryOp.{TUnaryOp}
use Rattle.c_syntax.specs.declared.operator.TUnaryOp.TheVariants as unaries
use Rattle.c_syntax.specs.declared.operator.TBinaryOp.{TBinaryOp}
use Rattle.c_syntax.specs.declared.operator.TBinaryOp.TheVariants as binaries
use Rattle.block_mem.specs.declared.types.Scalar.TheVariants as scalars
use Rattle.block_mem.specs.declared.types.Value.{Value}
use Rattle.c_values.specs.Numbers as numbers
use Rattle.c_values.specs.Operators.{unary_result, binary_result}
use Rattle.c_values.specs.Typed.{unary_type, binary_type}
use Rattle.num_api.specs.declared.message.Range.{Range}
use Rattle.num_api.specs.Ranges.{InRange, IsPoint, NoWider}
use Rattle.num_api.specs.declared.expr.NOp.{NOp}
use Rattle.num_api.specs.declared.expr.NOp.TheVariants.{Xor}
use Rattle.num_api.specs.Spans as spans
use Rattle.num_api.specs.Spans.{Span, FitsSpan, range_of}
use Rattle.num_api.specs.Value.{truth, binary_value}
use Rattle.machine_nums.specs.MExprs.{MExprTree}
use Rattle.machine_nums.specs.Laws.{IsDivision}
use Rattle.machine_nums.specs.Rule.{type_span, converted, typed_span, value_span}
use Rattle.csharp.specs.States.{if_taken}
use Rattle.plain_runs.specs.Numbers.{number_op, shift_op, compared, of_one, of_two}
use Rattle.mem_temps.specs.Values.{number_of, IsNoObject}

-- the range lies in the type
abbrev pub LiesIn : IntType → Range → Type 0
LiesIn t r = NoWider r (range_of (type_span t))

-- ---- arithmetic and shifts at a type

-- the divisor is not 0
abbrev pub MayDivide : Arithmetic → ℤ → Type 0
MayDivide op b = IsDivision op → b ≢ pos 0

pub record IsArithmetic (op : Arithmetic) (t : IntType) (r s found : Range) : Type 0 where
  pub inside : LiesIn t found
  pub holds : (a b : ℤ) → InRange r a → InRange s b → MayDivide op b → InRange found (numbers.arithmetic op t a b)
  pub point : LiesIn t r → LiesIn t s → (a b : ℤ) → IsPoint r a → IsPoint s b → MayDivide op b → IsPoint found (numbers.arithmetic op t a b)
  pub plain : LiesIn t r → LiesIn t s → (p q : Span) → NoWider r (range_of p) → FitsSpan p → NoWider s (range_of q) → FitsSpan q
      → NoWider found (range_of (converted t (typed_span (number_op op) t p q)))

abbrev pub IsAmount : IntType → ℤ → Type 0
IsAmount t k = (pos 0 ≤ℤ k) × (k <ℤ pos (width t))

pub record IsShifted (way : Shift) (t : IntType) (r s found : Range) : Type 0 where
  pub inside : LiesIn t r → LiesIn t found
  pub holds : (a k : ℤ) → InRange r a → InRange s k → IsAmount t k → InRange found (numbers.shifted way t a k)
  pub point : LiesIn t r → (a k : ℤ) → IsPoint r a → IsPoint s k → IsAmount t k → IsPoint found (numbers.shifted way t a k)
  pub plain : LiesIn t r → (p q : Span) → NoWider r (range_of p) → FitsSpan p → NoWider s (range_of q) → FitsSpan q
      → NoWider found (range_of (converted t (typed_span (shift_op way) t p q)))

-- each bit of a number is turned
pub record IsComplement (t : IntType) (r found : Range) : Type 0 where
  pub inside : LiesIn t found
  pub holds : (n : ℤ) → InRange r n → InRange found (numbers.complement t n)
  pub point : LiesIn t r → (n : ℤ) → IsPoint r n → IsPoint found (numbers.complement t n)
  pub plain : LiesIn t r → (p : Span) → NoWider r (range_of p) → FitsSpan p
      → NoWider found (range_of (converted t (typed_span Xor t p (converted t (Some (spans.point (wrapped t (negsuc 0))))))))

-- ---- comparisons

-- the operators that give 1 where something holds of two numbers, and else 0
abbrev pub IsTest : NOp → Type 0
IsTest op = (a b : ℤ) → (t : Bool) × (binary_value op a b ≡ Some (truth t))

pub record IsTestRange (op : NOp) (r s found : Range) : Type 0 where
  pub inside : LiesIn Int found
  pub holds : (a b : ℤ) (t : Bool) → InRange r a → InRange s b → binary_value op a b ≡ Some (truth t) → InRange found (truth t)
  pub point : (a b : ℤ) (t : Bool) → IsPoint r a → IsPoint s b → binary_value op a b ≡ Some (truth t) → IsPoint found (truth t)
  pub plain : (p q : Span) → NoWider r (range_of p) → FitsSpan p → NoWider s (range_of q) → FitsSpan q
      → NoWider found (range_of (converted Int (typed_span op Int p q)))

-- 1 where the comparison holds, and else 0
pub record IsCompared (c : Comparison) (r s found : Range) : Type 0 where
  pub inside : LiesIn Int found
  pub holds : (a b : ℤ) → InRange r a → InRange s b → InRange found (truth (numbers.compares c a b))
  pub point : (a b : ℤ) → IsPoint r a → IsPoint s b → IsPoint found (truth (numbers.compares c a b))
  pub plain : (given : ℕ → Range) (a b : MExprTree) → NoWider r (range_of (value_span given a)) → NoWider s (range_of (value_span given b))
      → NoWider found (range_of (value_span given (compared c a b)))

-- ---- operators on values

-- the ranges of an operator's operands lie in their types
abbrev pub UnaryFits : TUnaryOp → Range → Type 0
UnaryFits (unaries.Plus t) r = LiesIn t r
UnaryFits (unaries.Minus t) r = LiesIn t r
UnaryFits (unaries.Complement t) r = LiesIn t r
UnaryFits unaries.Not r = Unit {0}

abbrev pub BinaryFits : TBinaryOp → Range → Range → Type 0
BinaryFits (binaries.Arithmetic op t) r s = LiesIn t r × LiesIn t s
BinaryFits (binaries.Shift way t) r s = LiesIn t r
BinaryFits op r s = Unit {0}

pub record IsUnary (op : TUnaryOp) (r found : Range) : Type 0 where
  pub holds : (v w : Value) → InRange r (number_of v) → unary_result op v ≡ Some w → InRange found (number_of w)
  pub point : UnaryFits op r → (v w : Value) → IsNoObject v → IsPoint r (number_of v) → unary_result op v ≡ Some w → IsPoint found (number_of w) × IsNoObject w
  pub inside : UnaryFits op r → (t : IntType) → unary_type op ≡ scalars.Int t → LiesIn t found
  pub plain : UnaryFits op r → (given : ℕ → Range) (a : MExprTree) → NoWider r (range_of (value_span given a))
      → NoWider found (range_of (value_span given (of_one op a)))

pub record IsBinary (op : TBinaryOp) (r s found : Range) : Type 0 where
  pub holds : (v u w : Value) → InRange r (number_of v) → InRange s (number_of u) → if_taken op (binary_result op) v u ≡ Some w → InRange found (number_of w)
  pub point : BinaryFits op r s → (v u w : Value) → IsNoObject v → IsNoObject u → IsPoint r (number_of v) → IsPoint s (number_of u)
      → if_taken op (binary_result op) v u ≡ Some w → IsPoint found (number_of w) × IsNoObject w
  pub inside : BinaryFits op r s → (t : IntType) → binary_type op ≡ scalars.Int t → LiesIn t found
  pub plain : BinaryFits op r s → (given : ℕ → Range) (a b m : MExprTree) → NoWider r (range_of (value_span given a))
      → NoWider s (range_of (value_span given b)) → of_two op a b ≡ Some m → NoWider found (range_of (value_span given m))
