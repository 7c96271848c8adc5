-- The meaning: a function by recursion on fuel and statement. Fuel is taken by turns of loops, calls and gotos alone (this profile).
use Rattle.std.specs.Prelude.{◌≡◌, ℕ, zero, suc, ◌==◌, nat_lt, ℤ, Bool, true, false, if◌then◌else◌, List, [], ◌∷◌, Option, Some, None, slice_get}
use Rattle.std.specs.Ordering.{int_eq}
use Rattle.c_syntax_written.specs.declared.place.Pos.{Pos}
use Rattle.c_syntax.specs.declared.alarm.WrongKind.{WrongKind}
use Rattle.c_syntax.specs.Operand.{Operand}
use Rattle.block_mem.specs.declared.types.Value.{Value}
use Rattle.block_mem.specs.declared.types.Value.TheVariants as values
use Rattle.c_values.specs.Values.{truth}
use Rattle.c_values.specs.Places.{ObjectMemory}
use Rattle.c_values.specs.Looks.{judge}
use Rattle.csharp.specs.Trees.{CsStmtTree, Nothing, Set, Load, Store, CopyBytes, Undefine, Checked, Input, Assume, Sequence, If, Loop, Block, Exit, Scope}
use Rattle.csharp.specs.Trees.{Switch, Goto, Call, Return, Label, Case, Default, CsStmtTrees, none, more, CsCallTree, CsFunctionTree, CsProgramTree}
use Rattle.csharp.specs.States.{State, first, value_of, look_of}
use Rattle.csharp.specs.Actions.{set, load, store, copy_bytes, undefine, input, enter, are_free, pass}
use Rattle.csharp.specs.Outcomes.{ByExit, ByGoto, ByReturn, Outcome, Normal, Leaves, Fails, Stopped, Clash, NoFuel, Over}
use Rattle.csharp.specs.Outcomes.{then_do, or_stuck, to_normal, or_waits, told, at_block, at_scope, at_call}

-- what is looked for among items: a label, a case, or the default
pub data Mark : Type 0 where
  AtLabel : ℕ → Mark
  AtCase : ℤ → Mark
  AtDefault : Mark

abbrev pub is_mark : Mark → CsStmtTree → Bool
is_mark (AtLabel label) (Label at l) = label == l
is_mark (AtCase n) (Case k) = int_eq n k
is_mark AtDefault Default = true
is_mark mark item = false

abbrev pub has : Mark → CsStmtTrees → Bool
has mark none = false
has mark (more item rest) = if is_mark mark item then true else has mark rest

-- where a switch goes on
abbrev pub chosen : Value → CsStmtTrees → Option Mark
chosen (values.Int t n) items = if has (AtCase n) items then Some (AtCase n) else (if has AtDefault items then Some AtDefault else None)
chosen v items = None

-- how a statement is begun: from its start, or as a later turn of a loop
pub data How : Type 0 where
  Anew : How
  Turn : ℕ → How

-- how many turns were made
abbrev pub turns_of : How → ℕ
turns_of Anew = 0
turns_of (Turn k) = k

-- what is done at one unit of fuel less: a statement, and items behind a mark
pub record Later : Type 0 where
  pub statement : How → CsStmtTree → State → Outcome
  pub items : Mark → CsStmtTrees → State → Outcome

-- a goto to a label of these items goes on behind it
abbrev pub caught : Later → CsStmtTrees → Outcome → Outcome
caught later all (Leaves (ByGoto label) s) = if has (AtLabel label) all then later.items (AtLabel label) all s else Leaves (ByGoto label) s
caught later all o = o

-- a scope is entered where none of its objects lives
abbrev pub within : CsProgramTree → List ℕ → State → (State → Outcome) → Outcome
within q xs s next = if are_free xs s then at_scope xs (next (enter q.objects xs s)) else Clash

-- a switch that finds no case does nothing
abbrev pub where_chosen : Option Mark → State → (Mark → Outcome) → Outcome
where_chosen None s next = Normal s
where_chosen (Some mark) s next = next mark

abbrev pub call : Later → CsCallTree → CsFunctionTree → State → Outcome
call later c f s = or_stuck (pass c.args f.params s) (λ t. at_call c (later.statement Anew f.body t))

-- what a statement comes to. A loop stops where it would make more turns than are asked for
abbrev mutual
  pub level : (ℕ → Bool) → CsProgramTree → Later → How → CsStmtTree → State → Outcome
  level over q later how Nothing s = Normal s
  level over q later how (Set d e) s = to_normal (set d e s)
  level over q later how (Load d ty e) s = to_normal (load d ty e s)
  level over q later how (Store ty e f) s = to_normal (store ty e f s)
  level over q later how (CopyBytes n to from) s = to_normal (copy_bytes n to from s)
  level over q later how (Undefine x) s = to_normal (undefine x s)
  level over q later how (Checked c) s = told (judge q.objects (look_of c s ∷ [])) c.pos s
  level over q later how (Input d t) s = or_waits (input d t s)
  level over q later how (Assume e) s = or_stuck (value_of e s) (λ v. if truth v then Normal s else Stopped)
  level over q later how (Sequence a b) s = then_do (level over q later Anew a s) (λ t. level over q later Anew b t)
  level over q later how (If e a b) s = or_stuck (value_of e s) (λ v. if truth v then level over q later Anew a s else level over q later Anew b s)
  level over q later how (Loop at a) s =
      if over (turns_of how) then Over else then_do (level over q later Anew a s) (λ t. later.statement (Turn (suc (turns_of how))) (Loop at a) t)
  level over q later how (Block a) s = at_block (level over q later Anew a s)
  level over q later how (Exit k) s = Leaves (ByExit k) s
  level over q later how (Scope xs all) s = within q xs s (λ t. caught later all (items over q later None all t))
  level over q later how (Switch e xs all) s =
      or_stuck (value_of e s) (λ v. where_chosen (chosen v all) s (λ mark. within q xs s (λ t. caught later all (items over q later (Some mark) all t))))
  level over q later how (Goto label) s = Leaves (ByGoto label) s
  level over q later how (Call c) s = or_stuck (slice_get q.functions c.function) (λ f. call later c f s)
  level over q later how (Return None) s = Leaves (ByReturn None) s
  level over q later how (Return (Some e)) s = or_stuck (value_of e s) (λ v. Leaves (ByReturn (Some v)) s)
  level over q later how (Label at l) s = Normal s
  level over q later how (Case n) s = Normal s
  level over q later how Default s = Normal s

  -- items in their order, from behind a mark on where there is one
  pub items : (ℕ → Bool) → CsProgramTree → Later → Option Mark → CsStmtTrees → State → Outcome
  items over q later from none s = Normal s
  items over q later None (more item rest) s = then_do (level over q later Anew item s) (λ t. items over q later None rest t)
  items over q later (Some mark) (more item rest) s = items over q later (if is_mark mark item then None else Some mark) rest s

-- items behind a mark, which catch gotos to their labels again
abbrev pub items_from : (ℕ → Bool) → CsProgramTree → Later → Mark → CsStmtTrees → State → Outcome
items_from over q later mark all s = caught later all (items over q later (Some mark) all s)

abbrev pub out_of_fuel : Later
out_of_fuel = record { statement = λ how a s. NoFuel; items = λ mark all s. NoFuel }

abbrev pub later_by : (ℕ → Bool) → CsProgramTree → ℕ → Later
later_by over q zero = out_of_fuel
later_by over q (suc n) = record { statement = level over q (later_by over q n); items = items_from over q (later_by over q n) }

-- what a statement comes to with so much fuel
abbrev pub bounded_exec : (ℕ → Bool) → CsProgramTree → ℕ → CsStmtTree → State → Outcome
bounded_exec over q fuel a s = level over q (later_by over q fuel) Anew a s

-- loops may make any number of turns
abbrev pub never : ℕ → Bool
never k = false

-- more turns than a bound
abbrev pub beyond : ℕ → ℕ → Bool
beyond bound k = nat_lt bound k

abbrev pub exec : CsProgramTree → ℕ → CsStmtTree → State → Outcome
exec = bounded_exec never

-- a run of main, which takes no arguments
abbrev pub run : CsProgramTree → ℕ → List ℤ → Outcome
run q fuel inputs = or_stuck (slice_get q.functions q.main) (λ f. exec q fuel f.body (first q inputs))

-- one whose loops stop where they would make more turns than are asked for
abbrev pub bounded_run : (ℕ → Bool) → CsProgramTree → ℕ → List ℤ → Outcome
bounded_run over q fuel inputs = or_stuck (slice_get q.functions q.main) (λ f. bounded_exec over q fuel f.body (first q inputs))

-- with some fuel, a run on these inputs fails a check at this chain, place and kind, with this operand and memory
pub record CheckFails
    (q : CsProgramTree) (inputs : List ℤ) (chain : List Pos) (at : Pos) (kind : WrongKind) (operand : Operand) (memory : ObjectMemory) : Type 0 where
  pub fuel : ℕ
  pub fails : run q fuel inputs ≡ Fails chain at kind operand memory
