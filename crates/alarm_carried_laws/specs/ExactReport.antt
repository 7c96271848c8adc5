-- One bounded run of a typed program, told without false alarms.
use Rattle.std.specs.Prelude.{◌≡◌, ℕ, ℤ, Some, List, [], ◌∷◌, Contains, IsSomeAnd, slice_get}
use Rattle.c_syntax_written.specs.declared.place.Pos.{Pos}
use Rattle.c_syntax_written.specs.declared.int_type.IntType.{IntType}
use Rattle.c_syntax.specs.declared.alarm.WrongKind.{WrongKind}
use Rattle.c_syntax.specs.declared.alarm.Alarm.{Alarm}
use Rattle.c_syntax.specs.declared.alarm.Fact.TheVariants as facts
use Rattle.c_syntax.specs.Types.{Int}
use Rattle.c_syntax.specs.Operand.{Operand}
use Rattle.c_syntax.specs.Program.{TProgramTree}
use Rattle.c_syntax.specs.Admission.{IsInShown}
use Rattle.c_layout.specs.MainFunction.{main_of}
use Rattle.c_objects.specs.Cells.{IsCellNumber}
use Rattle.c_steps.specs.Bounds.{IsForwardOnly, IsInputFree, Turns}
use Rattle.c_steps.specs.States.{State}
use Rattle.c_steps.specs.Sound.{MainGoesWrong, MainIsWrongAt, TellsOf}
use Rattle.mem_api.specs.FactsOf.{whole_cell}

-- the alarm shows the failing operand and no other, and tells the number of each integer object that lives and whose bytes are one there
pub record TellsAll (p : TProgramTree) (s : State) (operand : Operand) (alarm : Alarm) : Type 0 where
  pub shown : IsInShown p.objects operand alarm.shown
  pub alone : (other : Operand) → IsInShown p.objects other alarm.shown → other ≡ operand
  pub numbers : (x : ℕ) (ty : IntType) (n : ℤ) → IsSomeAnd (slice_get p.objects x) (λ object. object.ty ≡ Int ty)
      → IsCellNumber p.structs p.objects s.memory (whole_cell x ty) n → Contains alarm.facts (facts.Between (whole_cell x ty) n n)

-- no alarm where the run without inputs does not go wrong, and else the one alarm of it
pub record IsExactReport (p : TProgramTree) (alarms : List Alarm) : Type 0 where
  pub none : ((chain : List Pos) (at : Pos) (kind : WrongKind) → MainIsWrongAt p [] chain at kind → ⊥) → alarms ≡ []
  pub one : (s : State) (chain : List Pos) (at : Pos) (kind : WrongKind) (operand : Operand) → MainGoesWrong p [] s chain at kind operand
      → (alarm : Alarm) × (alarms ≡ alarm ∷ []) × TellsOf chain at kind alarm × TellsAll p s operand alarm

-- of a program that reads no input, has no goto that leads back, and in whose run no entry of a loop makes more turns than the bound
abbrev pub IsExactWithin : ℕ → TProgramTree → List Alarm → Type 0
IsExactWithin bound p alarms = IsInputFree p → IsForwardOnly p → (main : ℕ) → main_of p ≡ Some main → Turns p main bound → IsExactReport p alarms
