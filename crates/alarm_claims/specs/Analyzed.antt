-- What an analysis owes of a program: its alarms miss no failing check, show what fails, are admitted, and stand in order.
use Rattle.std.specs.Prelude.{◌≡◌, ◌⊎◌, ℤ, Some, List, [], ◌∷◌, All, AllPairs, Any, slice_get}
use Rattle.c_syntax_written.specs.declared.place.Pos.{Pos}
use Rattle.c_syntax.specs.declared.alarm.WrongKind.{WrongKind}
use Rattle.c_syntax.specs.declared.alarm.Alarm.{Alarm}
use Rattle.c_syntax.specs.Operand.{Operand}
use Rattle.c_syntax.specs.Admission.{IsInShown}
use Rattle.c_objects.specs.FactsIn.{HoldsIn}
use Rattle.c_values.specs.Places.{ObjectMemory}
use Rattle.c_steps.specs.Order.{Precedes}
use Rattle.c_steps.specs.Sound.{TellsOf}
use Rattle.csharp.specs.Trees.{CsFunctionTree, CsProgramTree}
use Rattle.csharp.specs.Meaning.{CheckFails}
use Rattle.alarm_claims.specs.Admitted.{IsAdmittedIn}

-- ---- what a walk leaves: one alarm in the list tells of a failure

pub record Tells (q : CsProgramTree) (a : Alarm) (calls : List Pos) (at : Pos) (wrong : WrongKind) (operand : Operand) (memory : ObjectMemory) : Type 0 where
  pub chain : a.chain ≡ calls
  pub place : a.pos ≡ at
  pub kind : a.kind ≡ wrong
  pub shown : IsInShown q.objects operand a.shown
  pub facts : All (HoldsIn q.structs q.objects memory) a.facts

abbrev pub Listed : CsProgramTree → List Alarm → List Pos → Pos → WrongKind → Operand → ObjectMemory → Type 0
Listed q [] calls at wrong operand memory = ⊥
Listed q (a ∷ out) calls at wrong operand memory = Tells q a calls at wrong operand memory ⊎ Listed q out calls at wrong operand memory

pub record ListsAll (q : CsProgramTree) (out : List Alarm) : Type 0 where
  pub by : (inputs : List ℤ) (calls : List Pos) (at : Pos) (wrong : WrongKind) (operand : Operand) (memory : ObjectMemory)
      → CheckFails q inputs calls at wrong operand memory → Listed q out calls at wrong operand memory

-- ---- what an analysis promises

-- the operand of the failing check is shown, and the facts hold in the memory there
abbrev pub Covers : CsProgramTree → Operand → ObjectMemory → Alarm → Type 0
Covers q operand memory alarm = IsInShown q.objects operand alarm.shown × All (HoldsIn q.structs q.objects memory) alarm.facts

-- calls lead from main to where the alarm's check stands; its example is shown and fails; what it shows and tells is proper
pub record Admits (q : CsProgramTree) (alarm : Alarm) : Type 0 where
  pub main : CsFunctionTree
  pub there : slice_get q.functions q.main ≡ Some main
  pub admitted : IsAdmittedIn q main.body alarm

pub record Analyzed (q : CsProgramTree) (alarms : List Alarm) : Type 0 where
  pub misses_none : (inputs : List ℤ) (chain : List Pos) (at : Pos) (kind : WrongKind) (operand : Operand) (memory : ObjectMemory)
      → CheckFails q inputs chain at kind operand memory → Any (TellsOf chain at kind) alarms
  pub shows : (inputs : List ℤ) (chain : List Pos) (at : Pos) (kind : WrongKind) (operand : Operand) (memory : ObjectMemory)
      → CheckFails q inputs chain at kind operand memory → All (λ alarm. TellsOf chain at kind alarm → Covers q operand memory alarm) alarms
  pub admitted : All (Admits q) alarms
  pub ordered : AllPairs Precedes alarms

-- an analysis is whole where its list tells of each failing check, each alarm is admitted, and the list is in order
abbrev pub AnalysesAreWhole : Type 0
AnalysesAreWhole = (q : CsProgramTree) (alarms : List Alarm) → ListsAll q alarms → All (Admits q) alarms → AllPairs Precedes alarms → Analyzed q alarms
