-- Checks that fail, and what is asked of a check before it is decided.
use Rattle.std.proofs.Common.{◌≡◌, true, false, Bool, refl, List, [], ◌∷◌, Option, Some, None, ap, subst, arith}
use Rattle.std.specs.Prelude.{if◌then◌else◌, pos, ℤ, ◌-◌}
use Rattle.c_syntax_written.specs.declared.int_type.IntType.{IntType}
use Rattle.c_syntax_written.specs.declared.int_type.IntType.TheVariants.{Char, SChar, UChar, Short, UShort, Int, UInt, Long, ULong, LLong, ULLong}
use Rattle.c_syntax_written.specs.Integer.{is_signed, least, greatest, width}
use Rattle.c_syntax.specs.declared.alarm.Check.{Check}
use Rattle.c_syntax.specs.declared.alarm.WrongKind.{WrongKind}
use Rattle.c_syntax.specs.declared.alarm.WrongKind.TheVariants as kinds
use Rattle.c_syntax.specs.Types.{ObjectTree}
use Rattle.c_syntax.specs.Operand.{Operand}
use Rattle.c_syntax.specs.Admission.{Fails, IsModerate}
use Rattle.c_syntax.specs.Failing.{fails}
use Rattle.c_layout.specs.Checks.{range_check, plain_check}
use Rattle.c_layout.proofs.Failing.{failing}
use Rattle.c_values.specs.Looks.{Passes, FailsAs, judge_one}
use Rattle.csharp.specs.Trees.{CsExprTree, Const, Null, Temp, Address, Unary, Binary, Convert}
use Rattle.c_syntax.specs.declared.operator.Arithmetic.{Arithmetic}
use Rattle.c_syntax.specs.declared.operator.Arithmetic.TheVariants as arithmetics
use Rattle.c_syntax.specs.declared.operator.Shift.TheVariants as shifts
use Rattle.c_syntax.specs.declared.operator.TUnaryOp.TheVariants as unaries
use Rattle.c_syntax.specs.declared.operator.TBinaryOp.TheVariants as binaries
use Rattle.csharp.specs.Formed.{FieldsAre, One, result_check, arithmetic_check}
use Rattle.mem_shown.specs.Decisions.{HasFields}

pub record Failed (objects : List ObjectTree) (check : Check) (o : Option Operand) (k : WrongKind) (x : Operand) : Type 0 where
  pub there : o ≡ Some x
  pub kind : check.kind ≡ k
  pub bad : Fails objects check x

fail_case : (objects : List ObjectTree) (check : Check) (y : Operand) (k : WrongKind) (x : Operand) (b : Bool) → fails objects check y ≡ b
    → (if b then FailsAs check.kind y else Passes) ≡ FailsAs k x → Failed objects check (Some y) k x
fail_case objects check y k x true e h =
    let same : y ≡ x = cc in
    record { there = ap Some same; kind = cc; bad = subst (Fails objects check) same ((failing objects check check.kind y).0 e) }
fail_case objects check y k x false e h = absurd (cc)

pub failed : (objects : List ObjectTree) (check : Check) (o : Option Operand) (k : WrongKind) (x : Operand)
    → judge_one objects check o Passes ≡ FailsAs k x → Failed objects check o k x
failed objects check None k x h = absurd (cc)
failed objects check (Some y) k x h = fail_case objects check y k x (fails objects check y) refl h

pub record Passed (objects : List ObjectTree) (check : Check) (o : Option Operand) : Type 0 where
  pub operand : Operand
  pub there : o ≡ Some operand
  pub good : Fails objects check operand → ⊥

pass_case : (objects : List ObjectTree) (check : Check) (y : Operand) (b : Bool) → fails objects check y ≡ b
    → (if b then FailsAs check.kind y else Passes) ≡ Passes → Passed objects check (Some y)
pass_case objects check y true e h = absurd (cc)
pass_case objects check y false e h =
    record { operand = y; there = refl; good = λ bad. let t = (failing objects check check.kind y).1 bad in absurd (cc) }

pub passed : (objects : List ObjectTree) (check : Check) (o : Option Operand) → judge_one objects check o Passes ≡ Passes → Passed objects check o
passed objects check None h = absurd (cc)
passed objects check (Some y) h = pass_case objects check y (fails objects check y) refl h

-- ---- fields

zero_moderate : IsModerate (Some (pos 0))
zero_moderate = (omega arith, omega arith)

least_moderate : (t : IntType) → IsModerate (Some (least t))
least_moderate Char = (omega arith, omega arith)
least_moderate SChar = (omega arith, omega arith)
least_moderate UChar = (omega arith, omega arith)
least_moderate Short = (omega arith, omega arith)
least_moderate UShort = (omega arith, omega arith)
least_moderate Int = (omega arith, omega arith)
least_moderate UInt = (omega arith, omega arith)
least_moderate Long = (omega arith, omega arith)
least_moderate ULong = (omega arith, omega arith)
least_moderate LLong = (omega arith, omega arith)
least_moderate ULLong = (omega arith, omega arith)

greatest_moderate : (t : IntType) → IsModerate (Some (pos (greatest t)))
greatest_moderate Char = (omega arith, omega arith)
greatest_moderate SChar = (omega arith, omega arith)
greatest_moderate UChar = (omega arith, omega arith)
greatest_moderate Short = (omega arith, omega arith)
greatest_moderate UShort = (omega arith, omega arith)
greatest_moderate Int = (omega arith, omega arith)
greatest_moderate UInt = (omega arith, omega arith)
greatest_moderate Long = (omega arith, omega arith)
greatest_moderate ULong = (omega arith, omega arith)
greatest_moderate LLong = (omega arith, omega arith)
greatest_moderate ULLong = (omega arith, omega arith)

width_moderate : (t : IntType) → IsModerate (Some (pos (width t - 1)))
width_moderate Char = (omega arith, omega arith)
width_moderate SChar = (omega arith, omega arith)
width_moderate UChar = (omega arith, omega arith)
width_moderate Short = (omega arith, omega arith)
width_moderate UShort = (omega arith, omega arith)
width_moderate Int = (omega arith, omega arith)
width_moderate UInt = (omega arith, omega arith)
width_moderate Long = (omega arith, omega arith)
width_moderate ULong = (omega arith, omega arith)
width_moderate LLong = (omega arith, omega arith)
width_moderate ULLong = (omega arith, omega arith)

range_fields : (k : WrongKind) (lo hi : ℤ) → IsModerate (Some lo) → IsModerate (Some hi) → (k ≡ kinds.Alignment → ⊥) → HasFields (range_check k lo hi)
range_fields k lo hi a b n = record { lo = a; hi = b; align = λ i. absurd (n i) }

plain_fields : (k : WrongKind) → (k ≡ kinds.Alignment → ⊥) → HasFields (plain_check k)
plain_fields k n = record { lo = zero_moderate; hi = zero_moderate; align = λ i. absurd (n i) }

signed_case : (b : Bool) (c check : Check) → HasFields c → (if b then Some c else None) ≡ Some check → HasFields check
signed_case true c check h e = let same : c ≡ check = cc in subst HasFields same h
signed_case false c check h e = absurd (cc)

arithmetic_fields : (op : Arithmetic) (t : IntType) (check : Check) → arithmetic_check op t ≡ Some check → HasFields check
arithmetic_fields arithmetics.Multiply t check e = signed_case (is_signed t) (range_check kinds.Overflow (least t) (pos (greatest t))) check (range_fields kinds.Overflow (least t) (pos (greatest t)) (least_moderate t) (greatest_moderate t) (λ i. cc)) e
arithmetic_fields arithmetics.Divide t check e = signed_case (is_signed t) (range_check kinds.Quotient (least t) (pos (greatest t))) check (range_fields kinds.Quotient (least t) (pos (greatest t)) (least_moderate t) (greatest_moderate t) (λ i. cc)) e
arithmetic_fields arithmetics.Remainder t check e = signed_case (is_signed t) (range_check kinds.Quotient (least t) (pos (greatest t))) check (range_fields kinds.Quotient (least t) (pos (greatest t)) (least_moderate t) (greatest_moderate t) (λ i. cc)) e
arithmetic_fields arithmetics.Add t check e = signed_case (is_signed t) (range_check kinds.Overflow (least t) (pos (greatest t))) check (range_fields kinds.Overflow (least t) (pos (greatest t)) (least_moderate t) (greatest_moderate t) (λ i. cc)) e
arithmetic_fields arithmetics.Subtract t check e = signed_case (is_signed t) (range_check kinds.Overflow (least t) (pos (greatest t))) check (range_fields kinds.Overflow (least t) (pos (greatest t)) (least_moderate t) (greatest_moderate t) (λ i. cc)) e
arithmetic_fields arithmetics.BitAnd t check e = absurd (cc)
arithmetic_fields arithmetics.BitXor t check e = absurd (cc)
arithmetic_fields arithmetics.BitOr t check e = absurd (cc)

result_fields : (e : CsExprTree) (check : Check) → result_check e ≡ Some check → HasFields check
result_fields (Unary (unaries.Minus t) e) check r = signed_case (is_signed t) (range_check kinds.Overflow (least t) (pos (greatest t))) check (range_fields kinds.Overflow (least t) (pos (greatest t)) (least_moderate t) (greatest_moderate t) (λ i. cc)) r
result_fields (Unary (unaries.Plus t) e) check r = absurd (cc)
result_fields (Unary (unaries.Complement t) e) check r = absurd (cc)
result_fields (Unary unaries.Not e) check r = absurd (cc)
result_fields (Binary (binaries.Arithmetic op t) e f) check r = arithmetic_fields op t check r
result_fields (Binary (binaries.Shift shifts.Left t) e f) check r = signed_case (is_signed t) (range_check kinds.ShiftResult (pos 0) (pos (greatest t))) check (range_fields kinds.ShiftResult (pos 0) (pos (greatest t)) zero_moderate (greatest_moderate t) (λ i. cc)) r
result_fields (Binary (binaries.Shift shifts.Right t) e f) check r = absurd (cc)
result_fields (Binary (binaries.CompareInts c t) e f) check r = absurd (cc)
result_fields (Binary (binaries.ComparePointers c) e f) check r = absurd (cc)
result_fields (Binary (binaries.PointerPlusInt n) e f) check r = absurd (cc)
result_fields (Binary (binaries.IntPlusPointer n) e f) check r = absurd (cc)
result_fields (Binary (binaries.PointerMinusInt n) e f) check r = absurd (cc)
result_fields (Binary (binaries.PointerMinusPointer n) e f) check r = absurd (cc)
result_fields (Const t n) check r = absurd (cc)
result_fields Null check r = absurd (cc)
result_fields (Temp d) check r = absurd (cc)
result_fields (Address x) check r = absurd (cc)
result_fields (Convert t e) check r = absurd (cc)

one_fields : (es : List CsExprTree) (check : Check) → One (λ e. result_check e ≡ Some check) es → HasFields check
one_fields [] check h = absurd h
one_fields (e ∷ []) check h = result_fields e check h
one_fields (e ∷ f ∷ es) check h = absurd h

-- a formed check may be decided
pub fields_of : (k : WrongKind) (es : List CsExprTree) (check : Check) → FieldsAre k es check → HasFields check
fields_of kinds.Overflow es check h = one_fields es check h
fields_of kinds.Quotient es check h = one_fields es check h
fields_of kinds.ShiftResult es check h = one_fields es check h
fields_of kinds.ShiftAmount es check h = rw h.1 (range_fields kinds.ShiftAmount (pos 0) (pos (width h.0 - 1)) zero_moderate (width_moderate h.0) (λ i. cc))
fields_of kinds.Access es check h = rw h.3 (record { lo = zero_moderate; hi = zero_moderate; align = λ i. h.2 })
fields_of kinds.Alignment es check h = rw h.3 (record { lo = zero_moderate; hi = zero_moderate; align = λ i. h.2 })
fields_of kinds.Unrelated es check h = rw h.1 (record { lo = zero_moderate; hi = zero_moderate; align = λ i. cc })
fields_of kinds.DivideByZero es check h = rw h (plain_fields kinds.DivideByZero (λ i. cc))
fields_of kinds.Indeterminate es check h = rw h (plain_fields kinds.Indeterminate (λ i. cc))
fields_of kinds.Fragment es check h = rw h (plain_fields kinds.Fragment (λ i. cc))
fields_of kinds.NullUse es check h = rw h (plain_fields kinds.NullUse (λ i. cc))
fields_of kinds.Dangling es check h = rw h (plain_fields kinds.Dangling (λ i. cc))
fields_of kinds.Bounds es check h = rw h (plain_fields kinds.Bounds (λ i. cc))
fields_of kinds.ReadOnly es check h = rw h (plain_fields kinds.ReadOnly (λ i. cc))
fields_of kinds.NoValue es check h = rw h (plain_fields kinds.NoValue (λ i. cc))
fields_of kinds.AssertFailed es check h = rw h (plain_fields kinds.AssertFailed (λ i. cc))
