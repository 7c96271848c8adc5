-- Soundness: every execution that goes wrong is told of, with its operand and the facts of its state.
use Rattle.std.specs.Prelude.{◌≡◌, ℕ, ℤ, pos, Some, List, All, Any}
use Rattle.c_syntax_written.specs.declared.place.Pos.{Pos}
use Rattle.c_syntax.specs.declared.alarm.WrongKind.{WrongKind}
use Rattle.c_syntax.specs.declared.alarm.Alarm.{Alarm}
use Rattle.c_syntax.specs.declared.alarm.Shown.TheVariants as shows
use Rattle.c_syntax.specs.Operand.{Operand, Number}
use Rattle.c_syntax.specs.Program.{TProgramTree}
use Rattle.c_syntax.specs.Admission.{IsInShown}
use Rattle.c_layout.specs.MainFunction.{main_of}
use Rattle.c_objects.specs.FactsIn.{HoldsIn}
use Rattle.c_steps.specs.States.{State}
use Rattle.c_steps.specs.Runs.{GoesWrong}

-- a run of main on these inputs reaches this state, whose step is wrong at this chain, place and kind, with this operand of the failing check
abbrev pub MainGoesWrong : TProgramTree → List ℤ → State → List Pos → Pos → WrongKind → Operand → Type 0
MainGoesWrong p inputs s chain at kind operand = (main : ℕ) × (main_of p ≡ Some main) × GoesWrong p main inputs s chain at kind operand

-- the run of main on these inputs goes wrong at this chain, place and kind
abbrev pub MainIsWrongAt : TProgramTree → List ℤ → List Pos → Pos → WrongKind → Type 0
MainIsWrongAt p inputs chain at kind = (s : State) × (operand : Operand) × MainGoesWrong p inputs s chain at kind operand

-- the alarm is of this chain, place and kind
abbrev pub TellsOf : List Pos → Pos → WrongKind → Alarm → Type 0
TellsOf chain at kind alarm = (alarm.chain ≡ chain) × (alarm.pos ≡ at) × (alarm.kind ≡ kind)

-- what a step that goes wrong looks at is shown, and the facts hold there
abbrev pub Covers : TProgramTree → State → Operand → Alarm → Type 0
Covers p s operand alarm = IsInShown p.objects operand alarm.shown × All (HoldsIn p.structs p.objects s.memory) alarm.facts

-- for all inputs, each run that goes wrong is told of, and each alarm that tells of one covers it
pub record IsSound (p : TProgramTree) (alarms : List Alarm) : Type 0 where
  pub misses_none : (inputs : List ℤ) (chain : List Pos) (at : Pos) (kind : WrongKind) → MainIsWrongAt p inputs chain at kind
      → Any (TellsOf chain at kind) alarms
  pub shows : (inputs : List ℤ) (s : State) (chain : List Pos) (at : Pos) (kind : WrongKind) (operand : Operand)
      → MainGoesWrong p inputs s chain at kind operand
      → All (λ alarm. TellsOf chain at kind alarm → Covers p s operand alarm) alarms

-- an alarm shows no more than runs reach: on any inputs the run goes wrong there, with a number that is both ends of what is shown
abbrev pub IsLeast : TProgramTree → Alarm → Type 0
IsLeast p alarm = (inputs : List ℤ) → (n : ℤ) × (s : State) × MainGoesWrong p inputs s alarm.chain alarm.pos alarm.kind (Number n)
    × (alarm.shown ≡ shows.Number (Some n) (Some n) (pos 1) (pos 0))
