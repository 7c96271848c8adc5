-- What is asked of ranges of exact results, and of what is shown of ranges.
use Rattle.std.specs.Prelude.{◌≡◌, ℕ, ℤ, List, Some}
use Rattle.c_syntax.specs.declared.alarm.WrongKind.TheVariants.{Overflow}
use Rattle.c_syntax.specs.declared.alarm.Check.{Check}
use Rattle.c_syntax.specs.declared.operator.TUnaryOp.{TUnaryOp}
use Rattle.c_syntax.specs.declared.operator.Arithmetic.{Arithmetic}
use Rattle.c_syntax.specs.declared.operator.Arithmetic.TheVariants as arithmetics
use Rattle.c_syntax.specs.declared.operator.TBinaryOp.{TBinaryOp}
use Rattle.c_syntax.specs.declared.operator.TBinaryOp.TheVariants as binaries
use Rattle.c_syntax.specs.Operand.{Number}
use Rattle.c_syntax.specs.Admission.{IsModerate}
use Rattle.block_mem.specs.declared.types.Value.{Value}
use Rattle.c_values.specs.Places.{ObjectMemory}
use Rattle.c_values.specs.Operators.{exact_binary, unary_operand}
use Rattle.num_api.specs.declared.message.Range.{Range}
use Rattle.num_api.specs.Ranges.{InRange, IsPoint, NoWider}
use Rattle.num_api.specs.Spans.{Span, range_of}
use Rattle.machine_nums.specs.MExprs.{MExprTree, type_of}
use Rattle.machine_nums.specs.Rule.{exact_span, value_span}
use Rattle.csharp.specs.Trees.{CsExprTree, Unary, Binary, CsProgramTree}
use Rattle.csharp.specs.Formed.{AreOperandsTyped, result_check}
use Rattle.csharp.specs.States.{State, exact_of, if_taken}
use Rattle.plain_runs.specs.States.{Plain, given}
use Rattle.plain_runs.specs.Numbers.{number_expr, of_one, of_two}
use Rattle.plain_runs.specs.Checks.{quotient_of}
use Rattle.mem_temps.specs.Values.{number_of}
use Rattle.mem_temps.specs.Operators.{UnaryFits, BinaryFits}
use Rattle.mem_temps.specs.Ranges.{AreIn, AreAll, AreInside, AreUnder}

-- a number that may be shown alone
abbrev pub IsSmall : ℤ → Type 0
IsSmall n = IsModerate (Some n)

-- a remainder is asked for the quotient of its operands
abbrev pub quotiented : Arithmetic → Arithmetic
quotiented arithmetics.Remainder = arithmetics.Divide
quotiented op = op

abbrev pub asked : TBinaryOp → TBinaryOp
asked (binaries.Arithmetic op t) = binaries.Arithmetic (quotiented op) t
asked op = op

-- the operands of the operator have its type
abbrev pub AreOfType : TBinaryOp → MExprTree → MExprTree → Type 0
AreOfType (binaries.Arithmetic op t) l k = (type_of l ≡ t) × (type_of k ≡ t)
AreOfType (binaries.Shift way t) l k = type_of l ≡ t
AreOfType op l k = Unit {0}

-- the exact results of an operator whose operands are in the ranges; where it has a check of its result, that of points is a point, and they are no wider
-- than the plain rule leaves
pub record IsExact (op : TBinaryOp) (r s found : Range) : Type 0 where
  pub holds : (v u : Value) (n : ℤ) → InRange r (number_of v) → InRange s (number_of u) → if_taken op (exact_binary op) v u ≡ Some (Number n) → InRange found n
  pub point : (a b : CsExprTree) (check : Check) → result_check (Binary op a b) ≡ Some check → BinaryFits op r s → (v u : Value) (n : ℤ)
      → IsPoint r (number_of v) → IsPoint s (number_of u) → if_taken op (exact_binary op) v u ≡ Some (Number n) → IsPoint found n × IsSmall n
  pub plain : (a b : CsExprTree) (check : Check) → result_check (Binary op a b) ≡ Some check → (given : ℕ → Range) (l k m : MExprTree)
      → AreOfType op l k → NoWider r (range_of (value_span given l)) → NoWider s (range_of (value_span given k)) → of_two (asked op) l k ≡ Some m → (z : Span)
      → exact_span given m ≡ Some z → NoWider found (range_of z)

pub record IsExactUnary (op : TUnaryOp) (r found : Range) : Type 0 where
  pub holds : (m : ObjectMemory) (v : Value) (n : ℤ) → InRange r (number_of v) → unary_operand m op v Overflow ≡ Some (Number n) → InRange found n
  pub point : (a : CsExprTree) (check : Check) → result_check (Unary op a) ≡ Some check → UnaryFits op r → (m : ObjectMemory) (v : Value) (n : ℤ)
      → IsPoint r (number_of v) → unary_operand m op v Overflow ≡ Some (Number n) → IsPoint found n × IsSmall n
  pub plain : (a : CsExprTree) (check : Check) → result_check (Unary op a) ≡ Some check → (given : ℕ → Range) (l : MExprTree)
      → NoWider r (range_of (value_span given l)) → (z : Span) → exact_span given (of_one op l) ≡ Some z → NoWider found (range_of z)

-- the same of an expression's outermost operator
pub record IsExactOf (ranges : List Range) (e : CsExprTree) (found : Range) : Type 0 where
  pub holds : (s : State) (n : ℤ) → AreIn ranges s → exact_of e s ≡ Some (Number n) → InRange found n
  pub point : (q : CsProgramTree) (check : Check) (s : State) (n : ℤ) → AreOperandsTyped q e → result_check e ≡ Some check → AreInside q.temps ranges
      → AreAll ranges s → exact_of e s ≡ Some (Number n) → IsPoint found n × IsSmall n
  pub plain : (q : CsProgramTree) (check : Check) (p : Plain) (m : MExprTree) (z : Span) → AreOperandsTyped q e → result_check e ≡ Some check
      → AreInside q.temps ranges → AreUnder q.temps ranges p → number_expr q.temps (quotient_of e) ≡ Some m → exact_span (given p) m ≡ Some z
      → NoWider found (range_of z)
