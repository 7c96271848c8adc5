-- What a walk owes to the one run from a set that has one state alone: with nothing kept and nothing listed before, what it leaves is the outcome.
use Rattle.std.specs.Prelude.{◌≡◌, ◌≢◌, ◌⊎◌, ℕ, zero, suc, ℤ, Bool, true, false, List, [], ◌∷◌, Contains, Option, Some, None}
use Rattle.c_syntax_written.specs.declared.int_type.IntType.{IntType}
use Rattle.c_syntax_written.specs.declared.place.Pos.{Pos}
use Rattle.c_syntax.specs.declared.alarm.Alarm.{Alarm}
use Rattle.c_values.specs.Values.{truth}
use Rattle.block_mem.specs.declared.types.Value.{Value}
use Rattle.block_mem.specs.declared.types.Value.TheVariants as values
use Rattle.csharp.specs.Trees.{CsExprTree, CsStmtTree, Scope, Switch, CsStmtTrees, none, more, CsProgramTree}
use Rattle.csharp.specs.Formed.{Around, Each, EachItem, gathered_in}
use Rattle.csharp.specs.States.{State, value_of}
use Rattle.csharp.specs.Actions.{are_free, enter}
use Rattle.csharp.specs.Outcomes as outcomes
use Rattle.csharp.specs.Outcomes.{ByExit, ByGoto, ByReturn, Outcome, Normal, Leaves, Fails, Waiting, Stopped, Stuck, Clash, NoFuel, Over}
use Rattle.csharp.specs.Meaning as meaning
use Rattle.csharp.specs.Meaning.{AtCase, AtLabel, bounded_exec, caught, has, is_mark, items, later_by}
use Rattle.c_layout.specs.WellTyped.{EachOf}
use Rattle.csharp_laws.specs.Enough.{AreForward, gotos_of}
use Rattle.alarm_claims.specs.ExactFor.{ListedAlone}
use Rattle.walk_owes.specs.declared.marks.Mark.{Mark}
use Rattle.walk_owes.specs.declared.marks.Mark.TheVariants as marks
use Rattle.walk_owes.specs.declared.marks.Head.{Head}
use Rattle.walk_owes.specs.declared.way.Way.{Way}
use Rattle.walk_owes.specs.declared.way.Way.TheVariants as ways
use Rattle.walk_owes.specs.declared.way.Target.{Target}
use Rattle.walk_owes.specs.declared.way.Kept.{Kept}
use Rattle.walk_owes.specs.Owes.{HasTruth, InSome, returned}
use Rattle.walk_owes.specs.Items.{mark_of}
use Rattle.walk_owes.specs.Loops.{from_turn}

-- ---- what is asked of the code

-- each mark stands once among items
abbrev pub AreMarksOnce : CsStmtTrees → Type 0
AreMarksOnce none = Unit {0}
AreMarksOnce (more item rest) = ((m : meaning.Mark) → is_mark m item ≡ true → has m rest ≡ false) × AreMarksOnce rest

-- gotos lead forwards, and a switch enters at one place
abbrev pub IsStraight : Around → CsStmtTree → Type 0
IsStraight around (Scope xs all) = AreForward all
IsStraight around (Switch e xs all) = AreForward all × AreMarksOnce all
IsStraight around a = Unit {0}

pub record LeadsOn (a : CsStmtTree) : Type 0 where
  pub around : Around
  pub each : Each IsStraight around a

pub record AllLeadOn (all : CsStmtTrees) : Type 0 where
  pub around : Around
  pub each : EachItem IsStraight around all
  pub forward : AreForward all

abbrev pub BodiesLeadOn : CsProgramTree → Type 0
BodiesLeadOn q = EachOf q.functions (λ f function. LeadsOn function.body)

-- ---- what is left behind

-- one set is kept, for this way, and has this state alone
abbrev pub KeptAlone : {M : Type 0} → (M → State → Type 0) → List (Kept M) → Way → State → Type 0
KeptAlone sharp kept way s = (x : Kept _) × (kept ≡ x ∷ []) × (x.way ≡ way) × sharp x.state s

abbrev pub KeptWayAlone : {M : Type 0} → (M → State → Type 0) → Target → List (Kept M) → outcomes.Way → State → Type 0
KeptWayAlone sharp to kept (ByExit level) s = KeptAlone sharp kept (ways.Exit level) s
KeptWayAlone sharp to kept (ByGoto label) s = KeptAlone sharp kept (ways.Goto label) s
KeptWayAlone sharp to kept (ByReturn v) s = KeptAlone sharp kept ways.Return (returned to v s)

-- what a walk leaves is this outcome
abbrev pub Exactly : {M : Type 0} → (M → State → Type 0) → CsProgramTree → Target → Option M → List (Kept M) → List Alarm → Outcome → Type 0
Exactly sharp q to after kept out (Normal s) = InSome sharp after s × (kept ≡ []) × (out ≡ [])
Exactly sharp q to after kept out (Leaves way s) = (after ≡ None) × KeptWayAlone sharp to kept way s × (out ≡ [])
Exactly sharp q to after kept out (Fails calls at wrong operand memory) = (after ≡ None) × (kept ≡ []) × ListedAlone q out calls at wrong operand memory
Exactly sharp q to after kept out Stopped = (after ≡ None) × (kept ≡ []) × (out ≡ [])
Exactly sharp q to after kept out Waiting = Unit {0}
Exactly sharp q to after kept out Stuck = Unit {0}
Exactly sharp q to after kept out Clash = Unit {0}
Exactly sharp q to after kept out NoFuel = Unit {0}
Exactly sharp q to after kept out Over = Unit {0}

pub record Exact {M : Type 0} (sharp : M → State → Type 0) (over : ℕ → Bool) (q : CsProgramTree) (to : Target) (a : CsStmtTree) (before after : Option M)
    (kept : List (Kept M)) (out : List Alarm) (more : List (Kept M)) (later : List Alarm) : Type 0 where
  pub by : BodiesLeadOn q → LeadsOn a → (n : ℕ) (s : State) → InSome sharp before s → kept ≡ [] → out ≡ []
      → Exactly sharp q to after more later (bounded_exec over q n a s)

-- nothing is done from no set
pub record StaysDead {M : Type 0} (before after : Option M) (kept : List (Kept M)) (out : List Alarm) (more : List (Kept M)) (later : List Alarm) : Type 0 where
  pub by : before ≡ None → (after ≡ None) × (more ≡ kept) × (later ≡ out)

-- one side of a choice: nothing is done where the condition has the other truth
pub record ExactIf {M : Type 0} (sharp : M → State → Type 0) (over : ℕ → Bool) (q : CsProgramTree) (to : Target) (e : CsExprTree) (b : Bool) (a : CsStmtTree)
    (before : M) (after : Option M) (kept : List (Kept M)) (out : List Alarm) (more : List (Kept M)) (later : List Alarm) : Type 0 where
  pub by : BodiesLeadOn q → LeadsOn a → (n : ℕ) (s : State) → sharp before s → HasTruth e b s → kept ≡ [] → out ≡ []
      → Exactly sharp q to after more later (bounded_exec over q n a s)
  pub dead : (s : State) (v : Value) → sharp before s → value_of e s ≡ Some v → truth v ≢ b → (after ≡ None) × (more ≡ kept) × (later ≡ out)

-- ---- outcomes

-- nothing is asked of such an outcome
abbrev pub IsSilent : Outcome → Type 0
IsSilent Waiting = Unit {0}
IsSilent Stuck = Unit {0}
IsSilent Clash = Unit {0}
IsSilent NoFuel = Unit {0}
IsSilent Over = Unit {0}
IsSilent o = ⊥

-- such an outcome ends the walk
abbrev pub IsEnd : Outcome → Type 0
IsEnd (Leaves way s) = Unit {0}
IsEnd (Fails calls at wrong operand memory) = Unit {0}
IsEnd Stopped = Unit {0}
IsEnd o = ⊥

-- no normal end
abbrev pub IsOver : Outcome → Type 0
IsOver (Normal s) = ⊥
IsOver o = Unit {0}

-- ---- loops

-- a loop that has made some turns
pub record ExactLoop {M : Type 0} (sharp : M → State → Type 0) (over : ℕ → Bool) (q : CsProgramTree) (to : Target) (at : Pos) (a : CsStmtTree) (turns : ℕ)
    (entry : M) (kept : List (Kept M)) (out : List Alarm) (more : List (Kept M)) (later : List Alarm) : Type 0 where
  pub by : BodiesLeadOn q → LeadsOn a → (n : ℕ) (s : State) → sharp entry s → kept ≡ [] → out ≡ []
      → Exactly sharp q to None more later (from_turn over q n turns at a s)

-- how far the run of a loop has come after some turns that were walked one by one
pub record Rolled {M : Type 0} (sharp : M → State → Type 0) (over : ℕ → Bool) (q : CsProgramTree) (at : Pos) (a : CsStmtTree) (entry : M) (turns : ℕ) (head : M)
    (kept : List (Kept M)) (out : List Alarm) (more : List (Kept M)) (later : List Alarm) : Type 0 where
  pub by : BodiesLeadOn q → LeadsOn a → (n : ℕ) (s : State) → sharp entry s → kept ≡ [] → out ≡ [] → IsSilent (from_turn over q n 0 at a s)
      ⊎ ((m : ℕ) × (t : State) × sharp head t × (more ≡ []) × (later ≡ []) × (from_turn over q n 0 at a s ≡ from_turn over q m turns at a t))

-- a pass with lists of its own that stands for the last turn: where the turn from the entry does not come back, it is this turn
pub record LastPass {M : Type 0} (sharp : M → State → Type 0) (over : ℕ → Bool) (q : CsProgramTree) (to : Target) (a : CsStmtTree) (entry : M) (next : Option M)
    (kept : List (Kept M)) (out : List Alarm) : Type 0 where
  pub by : BodiesLeadOn q → LeadsOn a → (n : ℕ) (s : State) → sharp entry s → IsEnd (bounded_exec over q n a s)
      → Exactly sharp q to next kept out (bounded_exec over q n a s)

-- where the turn from the entry does not come back, the set is the entry
pub record Rests {M : Type 0} (sharp : M → State → Type 0) (over : ℕ → Bool) (q : CsProgramTree) (a : CsStmtTree) (entry head : M) : Type 0 where
  pub by : BodiesLeadOn q → LeadsOn a → (n : ℕ) (s : State) → sharp entry s → IsEnd (bounded_exec over q n a s) → head ≡ entry

-- ---- ways out

-- where the one kept set goes that leaves a block this way
abbrev pub OutOf : {M : Type 0} → Way → M → List (Kept M) → Option M → Type 0
OutOf (ways.Exit zero) m kept after = (kept ≡ []) × (after ≡ Some m)
OutOf (ways.Exit (suc level)) m kept after = (kept ≡ record { way = ways.Exit level; state = m } ∷ []) × (after ≡ None)
OutOf (ways.Goto label) m kept after = (kept ≡ record { way = ways.Goto label; state = m } ∷ []) × (after ≡ None)
OutOf ways.Return m kept after = (kept ≡ record { way = ways.Return; state = m } ∷ []) × (after ≡ None)

-- ---- items

-- no head of this mark has a set
abbrev pub IsBare : {M : Type 0} → List (Head M) → Mark → Type 0
IsBare [] mark = Unit {0}
IsBare (h ∷ heads) mark = (h.mark ≡ mark → h.state ≡ None) × IsBare heads mark

-- one head of this mark has a set, and that has this state alone
abbrev pub HeadAlone : {M : Type 0} → (M → State → Type 0) → List (Head M) → Mark → State → Type 0
HeadAlone sharp [] mark s = ⊥
HeadAlone sharp (h ∷ heads) mark s =
    ((h.mark ≡ mark) × InSome sharp h.state s × IsBare heads mark) ⊎ ((h.mark ≡ mark → h.state ≡ None) × HeadAlone sharp heads mark s)

-- where items are begun: at their start, or at the one mark whose head has a set
abbrev pub BeginsAlone : {M : Type 0} → (M → State → Type 0) → CsStmtTrees → List (Head M) → Option M → Option meaning.Mark → State → Type 0
BeginsAlone sharp all heads flow None s = InSome sharp flow s × ((mark : Mark) → IsBare heads mark)
BeginsAlone sharp all heads flow (Some m) s = (mark : Mark) × (m ≡ mark_of mark) × (flow ≡ None) × (has m all ≡ true) × HeadAlone sharp heads mark s
    × ((other : Mark) → IsBare heads other ⊎ (other ≡ mark)) × AreMarksOnce all

-- what items come to, with gotos to their labels
pub record ExactAll {M : Type 0} (sharp : M → State → Type 0) (over : ℕ → Bool) (q : CsProgramTree) (to : Target) (all : CsStmtTrees) (heads : List (Head M))
    (flow after : Option M) (kept : List (Kept M)) (out : List Alarm) : Type 0 where
  pub by : BodiesLeadOn q → AllLeadOn all → (n : ℕ) (from : Option meaning.Mark) (s : State) → BeginsAlone sharp all heads flow from s
      → Exactly sharp q to after kept out (caught (later_by over q n) all (items over q (later_by over q n) from all s))
  pub dead : flow ≡ None → ((mark : Mark) → IsBare heads mark) → (after ≡ None) × (kept ≡ []) × (out ≡ [])

-- the outcome is no goto to one of these labels
abbrev pub IsOut : CsStmtTrees → Outcome → Type 0
IsOut all (Leaves (ByGoto label) s) = has (AtLabel label) all ≡ false
IsOut all o = Unit {0}

-- no head of a mark that is to come has a set
abbrev pub AreBareAhead : {M : Type 0} → List (Head M) → CsStmtTrees → Type 0
AreBareAhead heads rest = (mark : Mark) → has (mark_of mark) rest ≡ true → IsBare heads mark

-- where the run of items is before those that are left: it has ended; it goes on with them; it enters them by a jump to a label; or it enters them at a head
abbrev pub HasEnded : {M : Type 0} → (M → State → Type 0) → CsProgramTree → Target → CsStmtTrees → Option M → List (Kept M) → List Alarm → Outcome → Type 0
HasEnded sharp q to all flow kept out o = IsOut all o × Exactly sharp q to flow kept out o × IsOver o

abbrev pub GoesInto : {M : Type 0} → (M → State → Type 0) → (ℕ → Bool) → CsProgramTree → CsStmtTrees → CsStmtTrees → Option M → List (Kept M) → List Alarm
    → Outcome → Type 0
GoesInto sharp over q all rest flow kept out o = (m : ℕ) × (s : State) × InSome sharp flow s × (kept ≡ []) × (out ≡ [])
    × (o ≡ caught (later_by over q m) all (items over q (later_by over q m) None rest s))

abbrev pub JumpsInto : {M : Type 0} → (M → State → Type 0) → (ℕ → Bool) → CsProgramTree → CsStmtTrees → CsStmtTrees → Option M → List (Kept M) → List Alarm
    → Outcome → Type 0
JumpsInto sharp over q all rest flow kept out o = (m : ℕ) × (l : ℕ) × (s : State) × (flow ≡ None) × (has (AtLabel l) rest ≡ true)
    × KeptAlone sharp kept (ways.Goto l) s × (out ≡ []) × (o ≡ caught (later_by over q m) all (items over q (later_by over q m) (Some (AtLabel l)) rest s))

abbrev pub EntersInto : {M : Type 0} → (M → State → Type 0) → (ℕ → Bool) → CsProgramTree → CsStmtTrees → CsStmtTrees → List (Head M) → Option M
    → List (Kept M) → List Alarm → Outcome → Type 0
EntersInto sharp over q all rest heads flow kept out o = (m : ℕ) × (at : Mark) × (s : State) × (flow ≡ None) × (has (mark_of at) rest ≡ true)
    × HeadAlone sharp heads at s × (kept ≡ []) × (out ≡ []) × ((other : Mark) → IsBare heads other ⊎ (other ≡ at)) × AreMarksOnce rest
    × (o ≡ caught (later_by over q m) all (items over q (later_by over q m) (Some (mark_of at)) rest s))

abbrev pub Goes : {M : Type 0} → (M → State → Type 0) → (ℕ → Bool) → CsProgramTree → Target → CsStmtTrees → CsStmtTrees → List (Head M) → Option M
    → List (Kept M) → List Alarm → Outcome → Type 0
Goes sharp over q to all rest heads flow kept out o =
    (AreBareAhead heads rest × (HasEnded sharp q to all flow kept out o ⊎ (GoesInto sharp over q all rest flow kept out o ⊎ JumpsInto sharp over q all rest flow kept out o)))
    ⊎ EntersInto sharp over q all rest heads flow kept out o

-- what is known of a pass when it has come to the rest of its items
pub record GoesOn {M : Type 0} (sharp : M → State → Type 0) (over : ℕ → Bool) (q : CsProgramTree) (to : Target) (all rest : CsStmtTrees) (heads : List (Head M))
    (start flow : Option M) (kept : List (Kept M)) (out : List Alarm) : Type 0 where
  pub by : BodiesLeadOn q → AllLeadOn all → (n : ℕ) (from : Option meaning.Mark) (s : State) → BeginsAlone sharp all heads start from s
      → Goes sharp over q to all rest heads flow kept out (caught (later_by over q n) all (items over q (later_by over q n) from all s))
  pub dead : start ≡ None → ((mark : Mark) → IsBare heads mark) → (flow ≡ None) × (kept ≡ []) × (out ≡ [])

-- the rest of items: marks that stand there stand in all, what is asked of all holds there, and a goto there finds its label there alone
pub record Behind (over : ℕ → Bool) (q : CsProgramTree) (all rest : CsStmtTrees) : Type 0 where
  pub among : (m : meaning.Mark) → has m rest ≡ true → has m all ≡ true
  pub parts : (around : Around) → EachItem IsStraight around all → EachItem IsStraight around rest
  pub forward : AreForward all → AreForward rest
  pub there : AreForward all → (l : ℕ) → Contains (gathered_in gotos_of rest) l → has (AtLabel l) all ≡ has (AtLabel l) rest
  pub same : AreForward all → (l : ℕ) → Contains (gathered_in gotos_of rest) l → (n : ℕ) (s : State)
      → items over q (later_by over q n) (Some (AtLabel l)) all s ≡ items over q (later_by over q n) (Some (AtLabel l)) rest s

-- ---- switches

-- where the one state before a switch is when its cases were parted up to the rest of its items: it is left, or it has entered at the case of its value
pub record PartedAlone {M : Type 0} (sharp : M → State → Type 0) (q : CsProgramTree) (e : CsExprTree) (xs : List ℕ) (all rest : CsStmtTrees) (before : M)
    (heads : List (Head M)) (left : Option M) : Type 0 where
  pub by : (s : State) (t : IntType) (k : ℤ) → sharp before s → value_of e s ≡ Some (values.Int t k)
      → (InSome sharp left s × (has (AtCase k) all ≡ has (AtCase k) rest) × ((mark : Mark) → IsBare heads mark))
      ⊎ ((has (AtCase k) all ≡ true) × (left ≡ None) × (are_free xs s ≡ true → HeadAlone sharp heads (marks.Case k) (enter q.objects xs s))
      × ((other : Mark) → IsBare heads other ⊎ (other ≡ marks.Case k)))
