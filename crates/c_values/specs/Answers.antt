-- What answers of the code say.
use Rattle.std.specs.Prelude.{◌≡◌, pos, ◌&&◌, if◌then◌else◌, ℤ, int_div, Result, Ok, Err}
use Rattle.std.specs.Ordering.{int_eq}
use Rattle.c_syntax_written.specs.declared.int_type.IntType.{IntType}
use Rattle.c_syntax_written.specs.Integer.{is_signed, least, greatest, wrapped}
use Rattle.c_syntax.specs.declared.alarm.WrongKind.{WrongKind}
use Rattle.c_syntax.specs.declared.alarm.WrongKind.TheVariants.{DivideByZero, Quotient}
use Rattle.c_syntax.specs.Operand.{Number, operand_of}
use Rattle.c_syntax.specs.Failing.{is_outside}
use Rattle.block_mem.specs.declared.types.Value.{Value}
use Rattle.block_mem.specs.declared.types.Value.TheVariants as values
use Rattle.c_values.specs.declared.values.Wrong.{Wrong}
use Rattle.c_values.specs.Looks.{Judged, Passes, FailsAs, Outcome, Gives, GoesWrong}

-- an operator comes to this value, or to this that is wrong
abbrev pub Answers : Result Value Wrong → Outcome → Type 0
Answers (Ok v) o = o ≡ Gives v
Answers (Err w) o = o ≡ GoesWrong w.kind (operand_of w.operand)

-- all looks pass, or this is the first that fails
abbrev pub Finds : {A : Type 0} → Result A Wrong → Judged → Type 0
Finds (Ok a) j = j ≡ Passes
Finds (Err w) j = j ≡ FailsAs w.kind (operand_of w.operand)

-- the exact number, wrapped to the type; of a signed type it is to lie between these ends
abbrev pub ranged : WrongKind → IntType → ℤ → ℤ → ℤ → Outcome
ranged kind t lo hi exact = if is_signed t && is_outside lo hi exact then GoesWrong kind (Number exact) else Gives (values.Int t (wrapped t exact))

-- the divisor is not 0; then the exact quotient is to be a number of a signed type
abbrev pub divided : IntType → ℤ → ℤ → Judged
divided t a b =
    if int_eq b (pos 0) then FailsAs DivideByZero (Number b) else
    if is_signed t && is_outside (least t) (pos (greatest t)) (int_div a b) then FailsAs Quotient (Number (int_div a b)) else Passes
