-- What answers of the code say.
use Rattle.std.specs.Prelude.{◌≡◌, Bool, true, false, Option, Some, None, Result, Ok, Err}
use Rattle.c_syntax.specs.Operand.{Number, Point, Points, Mark, End}
use Rattle.c_syntax.specs.Operand as pure
use Rattle.c_values.specs.Looks as looks
use Rattle.c_values.specs.Typed.{IsNear}
use Rattle.csharp.specs.States.{State}
use Rattle.csharp_state.specs.declared.error.Unanswered.{Unanswered}
use Rattle.csharp_state.specs.declared.error.Unanswered.TheVariants as reasons
use Rattle.csharp_state.specs.declared.state.Step.{Step}
use Rattle.csharp_state.specs.declared.state.Step.TheVariants as steps
use Rattle.csharp_state.specs.declared.sight.LoadMark.{LoadMark}
use Rattle.csharp_state.specs.declared.sight.LoadMark.TheVariants as marks
use Rattle.csharp_state.specs.declared.sight.CallEnd.{CallEnd}
use Rattle.csharp_state.specs.declared.sight.CallEnd.TheVariants as ends
use Rattle.csharp_state.specs.declared.sight.Operand.{Operand}
use Rattle.csharp_state.specs.declared.sight.Operand.TheVariants as operands
use Rattle.csharp_state.specs.declared.sight.Judgement.{Judgement}
use Rattle.csharp_state.specs.declared.sight.Judgement.TheVariants as judgements

abbrev pub mark_of : LoadMark → pure.LoadMark
mark_of marks.Undef = pure.Undef
mark_of marks.HasValue = pure.HasValue
mark_of marks.Broken = pure.Broken

abbrev pub end_of : CallEnd → pure.CallEnd
end_of ends.Value = pure.Value
end_of ends.Nothing = pure.None

abbrev pub operand_of : Operand → pure.Operand
operand_of (operands.Number n) = Number n
operand_of (operands.Point s) = Point s
operand_of (operands.Points s t) = Points s t
operand_of (operands.Mark m) = Mark (mark_of m)
operand_of (operands.End e) = End (end_of e)

abbrev pub judged : Judgement → looks.Judged
judged judgements.Passes = looks.Passes
judged (judgements.Fails kind operand) = looks.FailsAs kind (operand_of operand)
judged judgements.NoOperand = looks.NoOperand

-- offsets of two spots that are compared are those of pointers
abbrev pub AreNear : Operand → Type 0
AreNear (operands.Points s t) = IsNear s × IsNear t
AreNear x = Unit {0}

-- an action led to the state behind it; or there is none, and nothing changed
abbrev pub Took : Step → State → State → Option State → Type 0
Took steps.Done old new behind = behind ≡ Some new
Took steps.Barred old new behind = (behind ≡ None) × (new ≡ old)

-- given up exactly where this is so; out of memory may come at any time
abbrev pub GivesUp : {A : Type 0} → Result A Unanswered → Bool → Type 0
GivesUp (Ok a) unheld = unheld ≡ false
GivesUp (Err reasons.NoMemory) unheld = Unit {0}
GivesUp (Err reasons.Unheld) unheld = unheld ≡ true
