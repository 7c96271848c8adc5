-- What an analysis owes of the one run without inputs, where that does not turn too often.
use Rattle.std.specs.Prelude.{◌≡◌, ℕ, ℤ, List, [], ◌∷◌}
use Rattle.c_syntax_written.specs.declared.place.Pos.{Pos}
use Rattle.c_syntax.specs.declared.alarm.WrongKind.{WrongKind}
use Rattle.c_syntax.specs.declared.alarm.Alarm.{Alarm}
use Rattle.c_syntax.specs.Operand.{Operand}
use Rattle.c_values.specs.Places.{ObjectMemory}
use Rattle.csharp.specs.Trees.{CsProgramTree}
use Rattle.csharp.specs.Outcomes.{Outcome, Normal, Leaves, Fails, Stopped}
use Rattle.csharp.specs.Meaning.{beyond, bounded_run}
use Rattle.mem_api.specs.Showing.{IsAlone}
use Rattle.mem_api.specs.FactsOf.{TellsWhole}

-- the alarm of this failure: it shows its operand alone, and tells the number of each integer object that is kept whole
pub record Reports (q : CsProgramTree) (a : Alarm) (calls : List Pos) (at : Pos) (wrong : WrongKind) (operand : Operand) (memory : ObjectMemory) : Type 0 where
  pub chain : a.chain ≡ calls
  pub place : a.pos ≡ at
  pub kind : a.kind ≡ wrong
  pub shown : IsAlone q.objects operand a.shown
  pub facts : TellsWhole q memory a.facts

abbrev pub ListedAlone : CsProgramTree → List Alarm → List Pos → Pos → WrongKind → Operand → ObjectMemory → Type 0
ListedAlone q out calls at wrong operand memory = (a : Alarm) × (out ≡ a ∷ []) × Reports q a calls at wrong operand memory

-- the list of an analysis where this is the outcome of the run
abbrev pub AlarmsOf : CsProgramTree → List Alarm → Outcome → Type 0
AlarmsOf q out (Normal s) = out ≡ []
AlarmsOf q out (Leaves way s) = out ≡ []
AlarmsOf q out (Fails calls at wrong operand memory) = ListedAlone q out calls at wrong operand memory
AlarmsOf q out Stopped = out ≡ []
AlarmsOf q out o = Unit {0}

pub record IsExactFor (q : CsProgramTree) (bound : ℕ) (alarms : List Alarm) : Type 0 where
  pub by : (fuel : ℕ) → AlarmsOf q alarms (bounded_run (beyond bound) q fuel [])
