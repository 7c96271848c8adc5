-- An alarm made wider serves in the place of the other.
use Rattle.std.specs.Prelude.{◌≡◌, List, [], All, Contains}
use Rattle.c_syntax_written.specs.declared.place.Pos.{Pos}
use Rattle.c_syntax.specs.declared.alarm.WrongKind.{WrongKind}
use Rattle.c_syntax.specs.declared.alarm.Alarm.{Alarm}
use Rattle.c_syntax.specs.Operand.{Operand}
use Rattle.c_syntax.specs.Admission.{IsInShown}
use Rattle.c_values.specs.Places.{ObjectMemory}
use Rattle.csharp.specs.Trees.{CsStmtTree, CsProgramTree}
use Rattle.alarm_claims.specs.Admitted.{IsAdmittedIn, Holds, Gains}
use Rattle.alarm_claims.specs.Analyzed.{Tells}

-- an alarm tells of all that another tells of, which may be of another check and have another example
pub record Serves (q : CsProgramTree) (x y : Alarm) : Type 0 where
  pub chain : y.chain ≡ x.chain
  pub place : y.pos ≡ x.pos
  pub kind : y.kind ≡ x.kind
  pub shows : (o : Operand) → IsInShown q.objects o x.shown → IsInShown q.objects o y.shown
  pub facts : All (Contains x.facts) y.facts

abbrev pub ServingAlarmsTell : Type 0
ServingAlarmsTell = (q : CsProgramTree) (x y : Alarm) → Serves q x y
    → (c : List Pos) (at : Pos) (k : WrongKind) (o : Operand) (m : ObjectMemory) → Tells q x c at k o m → Tells q y c at k o m

-- an alarm that holds an admitted one is admitted
abbrev pub HoldingAlarmsAreAdmitted : Type 0
HoldingAlarmsAreAdmitted = (q : CsProgramTree) (a : CsStmtTree) (x y : Alarm) → Holds q x y → IsAdmittedIn q a x → IsAdmittedIn q a y

-- what a walk gains that begins with an empty list is admitted
abbrev pub GainsAreAdmitted : Type 0
GainsAreAdmitted = (q : CsProgramTree) (a : CsStmtTree) (alarms : List Alarm) → Gains q a [] alarms → All (IsAdmittedIn q a) alarms
