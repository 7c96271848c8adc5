-- What a set keeps behind a check of one expression that has passed.
use Rattle.std.specs.Prelude.{◌≡◌, ℕ, Bool, true, false, List, Option, Some, None, ◌&&◌, if◌then◌else◌}
use Rattle.c_syntax.specs.declared.alarm.Check.{Check}
use Rattle.c_syntax.specs.declared.alarm.WrongKind.{WrongKind}
use Rattle.c_syntax.specs.declared.alarm.WrongKind.TheVariants as kinds
use Rattle.c_syntax.specs.declared.operator.Arithmetic.TheVariants.{Remainder}
use Rattle.c_syntax.specs.declared.operator.TBinaryOp.{TBinaryOp}
use Rattle.c_syntax.specs.declared.operator.TBinaryOp.TheVariants as binaries
use Rattle.num_api.specs.declared.message.Range.{Range}
use Rattle.num_api.specs.Ranges.{holds_some}
use Rattle.num_api.specs.Spans.{span}
use Rattle.csharp.specs.Trees.{CsExprTree, Temp, Binary}
use Rattle.mem_temps.specs.Cuts.{IsCutTo, IsCutNonzero, IsKeptIn}
use Rattle.mem_intervals.specs.Passed.{Remembered}

-- the temporary that an expression is
abbrev pub own_temp : CsExprTree → Option ℕ
own_temp (Temp d) = Some d
own_temp e = None

abbrev pub is_rest : TBinaryOp → Bool
is_rest (binaries.Arithmetic Remainder t) = true
is_rest op = false

abbrev pub is_a_remainder : CsExprTree → Bool
is_a_remainder (Binary op a b) = is_rest op
is_a_remainder e = false

-- a result that has passed is remembered, but for a remainder, which is checked by the quotient
abbrev pub remembered_of : CsExprTree → Range → Option Remembered
remembered_of e passing = if is_a_remainder e then None else Some (record { expr = e; range = passing })

-- an operand that is a temporary is cut
abbrev pub CutsOperand : CsExprTree → Range → List Range → Bool → List Range → Type 0
CutsOperand e passing ranges some new = (left : Bool) × IsKeptIn ranges (own_temp e) passing left new × (some ≡ (left && holds_some passing))

-- numbers of the exact result, and of the operand
abbrev pub KeepsResult : Check → CsExprTree → Range → List Range → Bool → List Range → Option Remembered → Type 0
KeepsResult check e exact ranges some new passed =
    (passing : Range) × IsCutTo exact (span check.lo check.hi) passing × (some ≡ holds_some passing) × (new ≡ ranges) × (passed ≡ remembered_of e passing)

abbrev pub KeepsOperand : (Range → Type 0) → CsExprTree → List Range → Bool → List Range → Option Remembered → Type 0
KeepsOperand IsCut e ranges some new passed =
    (passing : Range) × IsCut passing × CutsOperand e passing ranges some new × (passed ≡ None)

abbrev pub KeepsPassing : WrongKind → Check → CsExprTree → Range → Range → List Range → Bool → List Range → Option Remembered → Type 0
KeepsPassing kinds.Overflow check e value exact ranges some new passed = KeepsResult check e exact ranges some new passed
KeepsPassing kinds.Quotient check e value exact ranges some new passed = KeepsResult check e exact ranges some new passed
KeepsPassing kinds.ShiftResult check e value exact ranges some new passed = KeepsResult check e exact ranges some new passed
KeepsPassing kinds.ShiftAmount check e value exact ranges some new passed = KeepsOperand (IsCutTo value (span check.lo check.hi)) e ranges some new passed
KeepsPassing kinds.DivideByZero check e value exact ranges some new passed = KeepsOperand (IsCutNonzero value) e ranges some new passed
KeepsPassing kinds.AssertFailed check e value exact ranges some new passed =
    (passing : Range) × IsCutNonzero value passing × (some ≡ holds_some passing) × (new ≡ ranges) × (passed ≡ None)
KeepsPassing kind check e value exact ranges some new passed = (some ≡ true) × (new ≡ ranges) × (passed ≡ None)

abbrev pub IsKeptPassing : Check → CsExprTree → Range → Range → List Range → Bool → List Range → Option Remembered → Type 0
IsKeptPassing check e value exact ranges some new passed = KeepsPassing check.kind check e value exact ranges some new passed
