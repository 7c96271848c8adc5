-- Items of a scope: sets at their marks, and passes over them.
use Rattle.std.specs.Prelude.{◌≡◌, ◌⊎◌, ℕ, ℤ, Bool, true, false, List, [], ◌∷◌, Option, Some, None}
use Rattle.c_syntax_written.specs.declared.int_type.IntType.{IntType}
use Rattle.c_syntax_written.specs.declared.place.Pos.{Pos}
use Rattle.c_syntax.specs.declared.alarm.Alarm.{Alarm}
use Rattle.c_syntax.specs.declared.alarm.WrongKind.{WrongKind}
use Rattle.c_syntax.specs.Operand.{Operand}
use Rattle.block_mem.specs.declared.types.Value.TheVariants as values
use Rattle.c_values.specs.Places.{ObjectMemory}
use Rattle.csharp.specs.Trees.{CsExprTree, CsStmtTrees, CsProgramTree}
use Rattle.csharp.specs.States.{State, value_of}
use Rattle.csharp.specs.Actions.{are_free, enter}
use Rattle.csharp.specs.Outcomes as outcomes
use Rattle.csharp.specs.Outcomes.{ByExit, ByGoto, ByReturn, Outcome, Leaves}
use Rattle.csharp.specs.Meaning as meaning
use Rattle.csharp.specs.Meaning.{AtLabel, AtCase, AtDefault, has, items, later_by, caught}
use Rattle.walk_owes.specs.declared.marks.Mark.{Mark}
use Rattle.walk_owes.specs.declared.marks.Mark.TheVariants as marks
use Rattle.walk_owes.specs.declared.marks.Head.{Head}
use Rattle.walk_owes.specs.declared.way.Way.{Way}
use Rattle.walk_owes.specs.declared.way.Way.TheVariants as ways
use Rattle.walk_owes.specs.declared.way.Target.{Target}
use Rattle.walk_owes.specs.declared.way.Kept.{Kept}
use Rattle.alarm_claims.specs.Analyzed.{Listed}
use Rattle.walk_owes.specs.Owes.{Covered, InSome, KeepsState, SomeFor, returned}

-- ---- marks and their sets

abbrev pub mark_of : Mark → meaning.Mark
mark_of (marks.Label l) = AtLabel l
mark_of (marks.Case n) = AtCase n
mark_of marks.Default = AtDefault

-- a state enters items at a mark
abbrev pub HasHead : {M : Type 0} → (M → State → Type 0) → List (Head M) → Mark → State → Type 0
HasHead stands [] mark s = ⊥
HasHead stands (h ∷ heads) mark s = ((h.mark ≡ mark) × InSome stands h.state s) ⊎ HasHead stands heads mark s

abbrev pub HeadsFor : {M : Type 0} → (M → CsProgramTree → Type 0) → CsProgramTree → List (Head M) → Type 0
HeadsFor for q [] = Unit {0}
HeadsFor for q (h ∷ heads) = SomeFor for q h.state × HeadsFor for q heads

-- ---- one pass

-- a state that left is kept; a jump may also have gone on to its label in the same pass
abbrev pub Stays : {M : Type 0} → (M → State → Type 0) → List (Kept M) → List (Kept M) → Way → State → Type 0
Stays stands gone kept (ways.Exit k) s = KeepsState stands kept (ways.Exit k) s
Stays stands gone kept (ways.Goto l) s = KeepsState stands gone (ways.Goto l) s ⊎ KeepsState stands kept (ways.Goto l) s
Stays stands gone kept ways.Return s = KeepsState stands kept ways.Return s

abbrev pub StaysWay : {M : Type 0} → (M → State → Type 0) → Target → List (Kept M) → List (Kept M) → outcomes.Way → State → Type 0
StaysWay stands to gone kept (ByExit k) s = Stays stands gone kept (ways.Exit k) s
StaysWay stands to gone kept (ByGoto l) s = Stays stands gone kept (ways.Goto l) s
StaysWay stands to gone kept (ByReturn v) s = Stays stands gone kept ways.Return (returned to v s)

-- an outcome of items in a pass
abbrev pub Passed : {M : Type 0} → (M → State → Type 0) → CsProgramTree → Target → List (Kept M) → Option M → List (Kept M) → List Alarm → Outcome → Type 0
Passed stands q to gone after kept out (Leaves way s) = StaysWay stands to gone kept way s
Passed stands q to gone after kept out o = Covered stands q to after kept out o

-- nothing is lost in a pass
pub record PassGrows {M : Type 0} (stands : M → State → Type 0) (q : CsProgramTree) (gone kept : List (Kept M)) (out : List Alarm) (went more : List (Kept M))
    (later : List Alarm) : Type 0 where
  pub gone_on : (w : Way) (s : State) → KeepsState stands gone w s → KeepsState stands went w s
  pub stays : (w : Way) (s : State) → KeepsState stands kept w s → Stays stands went more w s
  pub lists : (calls : List Pos) (at : Pos) (wrong : WrongKind) (operand : Operand) (memory : ObjectMemory) → Listed q out calls at wrong operand memory
      → Listed q later calls at wrong operand memory

-- a pass over items is sound: from the set before them, from the heads, and from each jump that it took on to its label
pub record SoundItems {M : Type 0} (stands : M → State → Type 0) (q : CsProgramTree) (to : Target) (rest : CsStmtTrees) (heads : List (Head M))
    (flow : Option M) (before : List (Kept M)) (after : Option M) (gone kept : List (Kept M)) (out : List Alarm) : Type 0 where
  pub flows : (over : ℕ → Bool) (n : ℕ) (s : State) → InSome stands flow s
      → Passed stands q to gone after kept out (items over q (later_by over q n) None rest s)
  pub enters : (over : ℕ → Bool) (n : ℕ) (mark : Mark) (s : State) → HasHead stands heads mark s → has (mark_of mark) rest ≡ true
      → Passed stands q to gone after kept out (items over q (later_by over q n) (Some (mark_of mark)) rest s)
  pub jumps : (l : ℕ) (s : State) → KeepsState stands gone (ways.Goto l) s → KeepsState stands before (ways.Goto l) s
      ⊎ ((has (AtLabel l) rest ≡ true) × ((over : ℕ → Bool) (n : ℕ)
      → Passed stands q to gone after kept out (items over q (later_by over q n) (Some (AtLabel l)) rest s)))

-- what is known of a pass when it has come to the rest of its items: if that is sound from there, then the whole is from the start
pub record PassesOn {M : Type 0} (stands : M → State → Type 0) (q : CsProgramTree) (to : Target) (all rest : CsStmtTrees) (heads : List (Head M))
    (flow : Option M) (before : List (Kept M)) (mid : Option M) (gone kept : List (Kept M)) (out : List Alarm) : Type 0 where
  pub by : (after : Option M) (went more : List (Kept M)) (later : List Alarm) → SoundItems stands q to rest heads mid gone after went more later
      → PassGrows stands q gone kept out went more later → SoundItems stands q to all heads flow before after went more later

-- ---- closed passes

abbrev pub OnBool : Bool → Type 0 → Type 0 → Type 0
OnBool true A B = A
OnBool false A B = B

-- an outcome of items, before gotos to their labels are caught: such a goto has its state among those at the label
abbrev pub CoveredItems : {M : Type 0} → (M → State → Type 0) → CsProgramTree → Target → CsStmtTrees → (ℕ → State → Type 0) → Option M → List (Kept M)
    → List Alarm → Outcome → Type 0
CoveredItems stands q to all At after kept out (Leaves (ByGoto l) s) = OnBool (has (AtLabel l) all) (At l s) (KeepsState stands kept (ways.Goto l) s)
CoveredItems stands q to all At after kept out o = Covered stands q to after kept out o

-- one pass over items is sound from where they are entered, and from each state at a label, and its jumps are at their labels
pub record IsPass {M : Type 0} (stands : M → State → Type 0) (q : CsProgramTree) (to : Target) (all : CsStmtTrees)
    (Entry : Option meaning.Mark → State → Type 0) (At : ℕ → State → Type 0) (after : Option M) (kept : List (Kept M)) (out : List Alarm) : Type 0 where
  pub entered : (over : ℕ → Bool) (n : ℕ) (from : Option meaning.Mark) (s : State) → Entry from s
      → CoveredItems stands q to all At after kept out (items over q (later_by over q n) from all s)
  pub jumped : (over : ℕ → Bool) (n l : ℕ) (s : State) → has (AtLabel l) all ≡ true → At l s
      → CoveredItems stands q to all At after kept out (items over q (later_by over q n) (Some (AtLabel l)) all s)

-- what items come to, with gotos to their labels
abbrev pub CoveredAll : {M : Type 0} → (M → State → Type 0) → CsProgramTree → Target → CsStmtTrees → (Option meaning.Mark → State → Type 0) → Option M
    → List (Kept M) → List Alarm → Type 0
CoveredAll stands q to all Entry after kept out = (over : ℕ → Bool) (n : ℕ) (from : Option meaning.Mark) (s : State) → Entry from s
    → Covered stands q to after kept out (caught (later_by over q n) all (items over q (later_by over q n) from all s))

-- where items are begun: at their start from a set, or at a mark that stands there from its head
abbrev pub Begins : {M : Type 0} → (M → State → Type 0) → CsStmtTrees → List (Head M) → Option M → Option meaning.Mark → State → Type 0
Begins stands all heads flow None s = InSome stands flow s
Begins stands all heads flow (Some m) s = (mark : Mark) × (m ≡ mark_of mark) × HasHead stands heads mark s × (has m all ≡ true)

-- ---- switches

-- what is known of the states before a switch when its cases were parted up to the rest of its items: a state whose value is that of a case that was met
-- enters there, and of the others none is lost
pub record Parted {M : Type 0} (stands : M → State → Type 0) (q : CsProgramTree) (e : CsExprTree) (xs : List ℕ) (all rest : CsStmtTrees) (before : M)
    (heads : List (Head M)) (left : Option M) : Type 0 where
  pub by : (s : State) (t : IntType) (k : ℤ) → stands before s → value_of e s ≡ Some (values.Int t k)
      → (InSome stands left s × (has (AtCase k) all ≡ has (AtCase k) rest))
      ⊎ ((has (AtCase k) all ≡ true) × (are_free xs s ≡ true → HasHead stands heads (marks.Case k) (enter q.objects xs s)))
