-- States, the values of expressions, and the operands of checks (this profile).
use Rattle.std.specs.Prelude.{ℤ, pos, Bool, true, not, ◌&&◌, List, [], ◌∷◌, map, Option, Some, None, option_and_then, if◌then◌else◌, slice_get}
use Rattle.std.specs.Int.RustNames.{int_le, int_lt}
use Rattle.std.specs.Ordering.{int_eq}
use Rattle.c_syntax_written.specs.Integer.{width}
use Rattle.c_syntax.specs.declared.alarm.WrongKind.{WrongKind}
use Rattle.c_syntax.specs.declared.alarm.WrongKind.TheVariants as kinds
use Rattle.c_syntax.specs.declared.operator.Arithmetic.TheVariants.{Divide, Remainder}
use Rattle.c_syntax.specs.declared.operator.TBinaryOp.{TBinaryOp}
use Rattle.c_syntax.specs.declared.operator.TBinaryOp.TheVariants as binaries
use Rattle.c_syntax.specs.Operand.{Operand, End}
use Rattle.c_syntax.specs.Operand as operands
use Rattle.block_mem.specs.declared.types.Scalar.{Scalar}
use Rattle.block_mem.specs.declared.types.Scalar.TheVariants as scalars
use Rattle.block_mem.specs.declared.types.Value.{Value}
use Rattle.block_mem.specs.declared.types.Value.TheVariants as values
use Rattle.c_values.specs.Values.{converted_to}
use Rattle.c_values.specs.Places.{ObjectMemory, spot, point}
use Rattle.c_values.specs.Operators.{binary_result, unary_result, number, exact_binary, unary_operand, pair_operand}
use Rattle.c_values.specs.Accesses.{mark, test_operand}
use Rattle.c_values.specs.Looks.{Look}
use Rattle.c_objects.specs.Opening.{address}
use Rattle.c_objects.specs.Statics as statics
use Rattle.csharp.specs.Trees.{CsExprTree, Const, Null, Temp, Address, Unary, Binary, Convert, CsCheckTree, CsProgramTree}

-- the values of the temporaries, by their numbers; memory; the inputs that are left
pub record State : Type 0 where
  pub temps : List Value
  pub memory : ObjectMemory
  pub inputs : List ℤ

-- at the start each integer temporary is 0, and each pointer temporary is null
abbrev pub first_value : Scalar → Value
first_value (scalars.Int t) = values.Int t (pos 0)
first_value scalars.Pointer = values.Null

-- the first state: objects of static duration live and have their initial bytes
abbrev pub first : CsProgramTree → List ℤ → State
first q inputs = record { temps = map first_value q.temps; memory = statics.start q.objects q.initial; inputs = inputs }

-- the right operand is one that the operator takes: a divisor other than 0 (C11 6.5.5p5), an amount from 0 to below the width (C11 6.5.7p3)
abbrev pub takes_right : TBinaryOp → Value → Bool
takes_right (binaries.Arithmetic Divide t) (values.Int u n) = not (int_eq n (pos 0))
takes_right (binaries.Arithmetic Remainder t) (values.Int u n) = not (int_eq n (pos 0))
takes_right (binaries.Shift way t) (values.Int u n) = int_le (pos 0) n && int_lt n (pos (width t))
takes_right op u = true

-- what an operator gives on two values: by what it does not take there is neither a value nor an exact number
abbrev pub if_taken : {A : Type 0} → TBinaryOp → (Value → Value → Option A) → Value → Value → Option A
if_taken op act v u = if takes_right op u then act v u else None

-- the value of an expression: none where an object that it names does not live, where an operand is not of its operator's type, and where a divisor is 0 or
-- an amount is not below the width
abbrev pub value_of : CsExprTree → State → Option Value
value_of (Const t n) s = Some (values.Int t n)
value_of Null s = Some values.Null
value_of (Temp d) s = slice_get s.temps d
value_of (Address x) s = address s.memory x 0
value_of (Unary op e) s = option_and_then (unary_result op) (value_of e s)
value_of (Binary op e f) s = option_and_then (λ v. option_and_then (if_taken op (binary_result op) v) (value_of f s)) (value_of e s)
value_of (Convert t e) s = option_and_then (converted_to (scalars.Int t)) (value_of e s)

-- a value that both expressions have
abbrev pub on_both : {A : Type 0} → CsExprTree → CsExprTree → State → (Value → Value → Option A) → Option A
on_both e f s act = option_and_then (λ v. option_and_then (act v) (value_of f s)) (value_of e s)

-- the exact number of the outermost operator, before it is wrapped
abbrev pub exact_of : CsExprTree → State → Option Operand
exact_of (Unary op e) s = option_and_then (λ v. unary_operand s.memory op v kinds.Overflow) (value_of e s)
exact_of (Binary op e f) s = on_both e f s (if_taken op (exact_binary op))
exact_of e s = None

-- 1 where a call gave a value, and 0 where it gave none
abbrev pub end_of : Value → Option Operand
end_of (values.Int t n) = Some (End (if int_eq n (pos 0) then operands.None else operands.Value))
end_of v = None

-- where one pointer points, or two
abbrev pub pointed : WrongKind → List CsExprTree → State → Option Operand
pointed kind (e ∷ []) s = option_and_then (point s.memory) (value_of e s)
pointed kind (e ∷ f ∷ []) s = on_both e f s (λ v u. pair_operand (spot s.memory v) (spot s.memory u) kind)
pointed kind es s = None

-- the one expression that a check looks at
abbrev pub of_one : List CsExprTree → (CsExprTree → Option Operand) → Option Operand
of_one (e ∷ []) look = look e
of_one es look = None

abbrev pub of_value : List CsExprTree → State → (Value → Option Operand) → Option Operand
of_value es s look = of_one es (λ e. option_and_then look (value_of e s))

-- the operand of a check, by its kind. A check of a result looks at the exact number of the operand's outermost operator, one of a load at the bytes behind
-- the operand
abbrev pub operand_of : WrongKind → Option Scalar → List CsExprTree → State → Option Operand
operand_of kinds.Overflow ty es s = of_one es (λ e. exact_of e s)
operand_of kinds.Quotient ty es s = of_one es (λ e. exact_of e s)
operand_of kinds.ShiftResult ty es s = of_one es (λ e. exact_of e s)
operand_of kinds.DivideByZero ty es s = of_value es s number
operand_of kinds.ShiftAmount ty es s = of_value es s number
operand_of kinds.AssertFailed ty es s = of_value es s (λ v. test_operand s.memory v kinds.AssertFailed)
operand_of kinds.NoValue ty es s = of_value es s end_of
operand_of kinds.Indeterminate ty es s = of_value es s (mark s.memory ty)
operand_of kinds.Fragment ty es s = of_value es s (mark s.memory ty)
operand_of kind ty es s = pointed kind es s

-- a check with what it looks at now
abbrev pub look_of : CsCheckTree → State → Look
look_of c s = record { check = c.check; operand = operand_of c.check.kind c.ty c.operands s }
