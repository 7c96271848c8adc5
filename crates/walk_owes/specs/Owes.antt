-- What a walk owes to each outcome of a statement.
use Rattle.std.specs.Prelude.{◌≡◌, ◌⊎◌, ℕ, zero, suc, pos, Bool, List, [], ◌∷◌, Option, Some, None}
use Rattle.c_syntax_written.specs.declared.place.Pos.{Pos}
use Rattle.c_syntax_written.specs.declared.int_type.IntType.TheVariants as ints
use Rattle.c_syntax.specs.declared.alarm.Alarm.{Alarm}
use Rattle.c_syntax.specs.declared.alarm.WrongKind.{WrongKind}
use Rattle.c_syntax.specs.Operand.{Operand}
use Rattle.block_mem.specs.declared.types.Value.{Value}
use Rattle.block_mem.specs.declared.types.Value.TheVariants as values
use Rattle.c_values.specs.Values.{truth}
use Rattle.c_values.specs.Places.{ObjectMemory}
use Rattle.csharp.specs.Trees.{CsExprTree, CsStmtTree, CsProgramTree}
use Rattle.csharp.specs.States.{State, value_of}
use Rattle.csharp.specs.Actions.{put_into}
use Rattle.csharp.specs.Outcomes as outcomes
use Rattle.csharp.specs.Outcomes.{ByExit, ByGoto, ByReturn, Outcome, Normal, Leaves, Fails, Waiting, Stopped, Stuck, Clash, NoFuel, Over}
use Rattle.csharp.specs.Meaning.{bounded_exec}
use Rattle.csharp_typed_laws.specs.TypedStates.{IsTypedState}
use Rattle.alarm_claims.specs.Analyzed.{Listed}
use Rattle.walk_owes.specs.declared.way.Way.{Way}
use Rattle.walk_owes.specs.declared.way.Way.TheVariants as ways
use Rattle.walk_owes.specs.declared.way.Target.{Target}
use Rattle.walk_owes.specs.declared.way.Kept.{Kept}

-- ---- states

-- the set has the state, and its temporaries and memory are those of the program
abbrev pub HasTyped : {M : Type 0} → (M → State → Type 0) → CsProgramTree → M → State → Type 0
HasTyped stands q m s = stands m s × IsTypedState q s

-- a set that is there has the state
abbrev pub InSome : {M : Type 0} → (M → State → Type 0) → Option M → State → Type 0
InSome stands None s = ⊥
InSome stands (Some m) s = stands m s

-- a set that is kept for this way has the state
abbrev pub KeepsState : {M : Type 0} → (M → State → Type 0) → List (Kept M) → Way → State → Type 0
KeepsState stands [] way s = ⊥
KeepsState stands (k ∷ kept) way s = ((k.way ≡ way) × stands k.state s) ⊎ KeepsState stands kept way s

-- some set is kept for this way
abbrev pub HasWay : {M : Type 0} → List (Kept M) → Way → Type 0
HasWay [] way = ⊥
HasWay (k ∷ kept) way = (k.way ≡ way) ⊎ HasWay kept way

-- what a call leaves in its temporaries: the value, and whether there was one
abbrev pub returned : Target → Option Value → State → State
returned to None s = put_into to.flag (values.Int ints.Int (pos 0)) s
returned to (Some v) s = put_into to.flag (values.Int ints.Int (pos 1)) (put_into to.value v s)

-- a state that leaves is kept for its way; behind a return what is given stands in its temporaries already
abbrev pub KeepsWay : {M : Type 0} → (M → State → Type 0) → Target → List (Kept M) → outcomes.Way → State → Type 0
KeepsWay stands to kept (ByExit level) s = KeepsState stands kept (ways.Exit level) s
KeepsWay stands to kept (ByGoto label) s = KeepsState stands kept (ways.Goto label) s
KeepsWay stands to kept (ByReturn v) s = KeepsState stands kept ways.Return (returned to v s)

-- ---- what is owed

abbrev pub Covered : {M : Type 0} → (M → State → Type 0) → CsProgramTree → Target → Option M → List (Kept M) → List Alarm → Outcome → Type 0
Covered stands q to after kept out (Normal s) = InSome stands after s
Covered stands q to after kept out (Leaves way s) = KeepsWay stands to kept way s
Covered stands q to after kept out (Fails calls at wrong operand memory) = Listed q out calls at wrong operand memory
Covered stands q to after kept out Waiting = Unit {0}
Covered stands q to after kept out Stopped = Unit {0}
Covered stands q to after kept out Stuck = Unit {0}
Covered stands q to after kept out Clash = Unit {0}
Covered stands q to after kept out NoFuel = Unit {0}
Covered stands q to after kept out Over = Unit {0}

-- each outcome of the statement is covered, from each state before it
pub record Sound {M : Type 0} (stands : M → State → Type 0) (q : CsProgramTree) (to : Target) (a : CsStmtTree) (before after : Option M)
    (kept : List (Kept M)) (out : List Alarm) : Type 0 where
  pub by : (over : ℕ → Bool) (n : ℕ) (s : State) → InSome stands before s → Covered stands q to after kept out (bounded_exec over q n a s)

-- the condition has a value of this truth
abbrev pub HasTruth : CsExprTree → Bool → State → Type 0
HasTruth e b s = (v : Value) × (value_of e s ≡ Some v) × (truth v ≡ b)

-- the same, from the states in which a condition has this truth
pub record SoundIf {M : Type 0} (stands : M → State → Type 0) (q : CsProgramTree) (to : Target) (e : CsExprTree) (b : Bool) (a : CsStmtTree)
    (before : M) (after : Option M) (kept : List (Kept M)) (out : List Alarm) : Type 0 where
  pub by : (over : ℕ → Bool) (n : ℕ) (s : State) → stands before s → HasTruth e b s → Covered stands q to after kept out (bounded_exec over q n a s)

-- nothing that was kept or listed is lost
pub record Grows {M : Type 0} (stands : M → State → Type 0) (q : CsProgramTree) (kept : List (Kept M)) (out : List Alarm) (more : List (Kept M))
    (later : List Alarm) : Type 0 where
  pub keeps : (way : Way) (s : State) → KeepsState stands kept way s → KeepsState stands more way s
  pub lists : (calls : List Pos) (at : Pos) (wrong : WrongKind) (operand : Operand) (memory : ObjectMemory) → Listed q out calls at wrong operand memory
      → Listed q later calls at wrong operand memory

-- ---- blocks

-- where a state goes that leaves a block this way
abbrev pub GoesOut : {M : Type 0} → (M → State → Type 0) → List (Kept M) → Option M → Way → State → Type 0
GoesOut stands kept after (ways.Exit zero) s = InSome stands after s
GoesOut stands kept after (ways.Exit (suc level)) s = KeepsState stands kept (ways.Exit level) s
GoesOut stands kept after (ways.Goto label) s = KeepsState stands kept (ways.Goto label) s
GoesOut stands kept after ways.Return s = KeepsState stands kept ways.Return s

abbrev pub LeavesBlock : {M : Type 0} → (M → State → Type 0) → List (Kept M) → List (Kept M) → Option M → Type 0
LeavesBlock stands inner kept after = (way : Way) (s : State) → KeepsState stands inner way s → GoesOut stands kept after way s

-- ---- the program that sets are for

abbrev pub SomeFor : {M : Type 0} → (M → CsProgramTree → Type 0) → CsProgramTree → Option M → Type 0
SomeFor for q None = Unit {0}
SomeFor for q (Some m) = for m q

abbrev pub AllFor : {M : Type 0} → (M → CsProgramTree → Type 0) → CsProgramTree → List (Kept M) → Type 0
AllFor for q [] = Unit {0}
AllFor for q (k ∷ kept) = for k.state q × AllFor for q kept

-- ---- calls

-- an alarm of a body, with the place of the call before its chain
pub record IsMoved (at : Pos) (x y : Alarm) : Type 0 where
  pub chain : y.chain ≡ at ∷ x.chain
  pub place : y.pos ≡ x.pos
  pub kind : y.kind ≡ x.kind
  pub check : y.check ≡ x.check
  pub shown : y.shown ≡ x.shown
  pub example : y.example ≡ x.example
  pub facts : y.facts ≡ x.facts
