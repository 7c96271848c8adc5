-- What keeps states typed: the start, each action of a typed statement, and so the meaning (this profile).
use Rattle.std.specs.Prelude.{◌≡◌, ◌<◌, ℕ, true, Bool, ℤ, List, length, All, Option, Some, None, IfSome, slice_get}
use Rattle.c_syntax_written.specs.declared.int_type.IntType.{IntType}
use Rattle.block_mem.specs.declared.types.Scalar.{Scalar}
use Rattle.block_mem.specs.declared.types.Value.{Value}
use Rattle.block_mem.specs.Whole.{AreWhole}
use Rattle.c_objects.specs.Statics.{AreEightBits}
use Rattle.csharp.specs.Trees.{CsExprTree, CsCallTree, CsFunctionTree, CsProgramTree, CsStmtTree, Set, Load, Store, CopyBytes, Input}
use Rattle.csharp.specs.States.{State, first, value_of}
use Rattle.csharp.specs.Actions.{set, load, store, copy_bytes, undefine, input, enter, leave, are_free, given_to, pass}
use Rattle.csharp.specs.Outcomes.{Outcome, Normal, Leaves, Fails}
use Rattle.csharp.specs.Formed.{Around, AreOperandsTyped, ArgsFit, HasType, IsCallTyped, IsFormed, IsTyped, nothing_around}
use Rattle.csharp.specs.Meaning.{bounded_exec, run}
use Rattle.csharp_typed_laws.specs.TypedStates.{FitsInto, IsTypedCode, IsTypedOutcome, IsTypedState, IsTypedValue}

-- the first state of a formed program is typed, where the initial bytes have eight bits
abbrev pub FirstStatesAreTyped : Type 0
FirstStatesAreTyped = (q : CsProgramTree) (inputs : List ℤ) → IsFormed q → AreEightBits q.initial → IsTypedState q (first q inputs)

-- in a typed state an expression whose operands are typed has a value of its type, or none
abbrev pub ValuesAreTyped : Type 0
ValuesAreTyped = (q : CsProgramTree) (s : State) (ty : Scalar) (e : CsExprTree) (v : Value)
    → IsTypedState q s → AreOperandsTyped q e → HasType q ty e → value_of e s ≡ Some v → IsTypedValue (length s.memory.blocks) ty v

-- ---- actions

-- the state that there is behind an action, if there is one, is typed
abbrev pub LeadsToTyped : CsProgramTree → Option State → Type 0
LeadsToTyped q behind = IfSome behind (IsTypedState q)

abbrev pub SetKeeps : Type 0
SetKeeps = (q : CsProgramTree) (s : State) (d : ℕ) (e : CsExprTree) → IsTypedState q s → IsTyped q (Set d e) → LeadsToTyped q (set d e s)

abbrev pub LoadKeeps : Type 0
LoadKeeps = (q : CsProgramTree) (s : State) (d : ℕ) (ty : Scalar) (e : CsExprTree)
    → IsTypedState q s → IsTyped q (Load d ty e) → LeadsToTyped q (load d ty e s)

abbrev pub StoreKeeps : Type 0
StoreKeeps = (q : CsProgramTree) (s : State) (ty : Scalar) (e f : CsExprTree)
    → IsTypedState q s → IsTyped q (Store ty e f) → LeadsToTyped q (store ty e f s)

abbrev pub CopyKeeps : Type 0
CopyKeeps = (q : CsProgramTree) (s : State) (n : ℕ) (to from : CsExprTree)
    → IsTypedState q s → IsTyped q (CopyBytes n to from) → LeadsToTyped q (copy_bytes n to from s)

abbrev pub UndefineKeeps : Type 0
UndefineKeeps = (q : CsProgramTree) (s : State) (x : ℕ) → IsTypedState q s → LeadsToTyped q (undefine x s)

abbrev pub InputKeeps : Type 0
InputKeeps = (q : CsProgramTree) (s : State) (d : ℕ) (t : IntType) → IsTypedState q s → IsTyped q (Input d t) → LeadsToTyped q (input d t s)

-- objects of the program that begin where none of them lives
abbrev pub EnterKeeps : Type 0
EnterKeeps = (q : CsProgramTree) (s : State) (xs : List ℕ) → IsTypedState q s → All (λ x. x < length q.objects) xs → are_free xs s ≡ true
    → IsTypedState q (enter q.objects xs s)

abbrev pub LeaveKeeps : Type 0
LeaveKeeps = (q : CsProgramTree) (s : State) (xs : List ℕ) → IsTypedState q s → IsTypedState q (leave xs s)

abbrev pub PassKeeps : Type 0
PassKeeps = (q : CsProgramTree) (s : State) (args : List CsExprTree) (params : List ℕ)
    → IsTypedState q s → All (AreOperandsTyped q) args → ArgsFit q args params → LeadsToTyped q (pass args params s)

-- the end of a typed call, with no value or with one that fits the temporary that takes it
abbrev pub GiveKeeps : Type 0
GiveKeeps = (q : CsProgramTree) (s : State) (c : CsCallTree) (f : CsFunctionTree) (v : Value) → IsTypedState q s → IsCallTyped q c f
    → IsTypedState q (given_to c None s) × (FitsInto q c.value (length s.memory.blocks) v → IsTypedState q (given_to c (Some v) s))

-- ---- the meaning

-- in a formed program code that is typed leaves a typed state typed, whatever the fuel and the bound on turns
abbrev pub TypedStatesStayTyped : Type 0
TypedStatesStayTyped = (over : ℕ → Bool) (q : CsProgramTree) (fuel : ℕ) (into : Option ℕ) (around : Around) (a : CsStmtTree) (s : State)
    → IsFormed q → IsTypedCode q into around a → IsTypedState q s → IsTypedOutcome q into (bounded_exec over q fuel a s)

-- the body of each function of a formed program is typed code
abbrev pub BodiesAreTyped : Type 0
BodiesAreTyped = (q : CsProgramTree) (f : ℕ) (function : CsFunctionTree)
    → IsFormed q → slice_get q.functions f ≡ Some function → IsTypedCode q None nothing_around function.body

-- so what a run of a formed program comes to is typed
abbrev pub RunsAreTyped : Type 0
RunsAreTyped = (q : CsProgramTree) (fuel : ℕ) (inputs : List ℤ) → IsFormed q → AreEightBits q.initial → IsTypedOutcome q None (run q fuel inputs)

-- ---- whole pointers

-- all stored pointers are whole behind code and at a check that fails
abbrev pub HasWholePointers : Outcome → Type 0
HasWholePointers (Normal t) = AreWhole t.memory.blocks
HasWholePointers (Leaves way t) = AreWhole t.memory.blocks
HasWholePointers (Fails chain at kind operand m) = AreWhole m.blocks
HasWholePointers o = Unit {0}

-- typed code leaves pointers whole
abbrev pub PointersStayWhole : Type 0
PointersStayWhole = (over : ℕ → Bool) (q : CsProgramTree) (fuel : ℕ) (into : Option ℕ) (around : Around) (a : CsStmtTree) (s : State)
    → IsFormed q → IsTypedCode q into around a → IsTypedState q s → AreWhole s.memory.blocks → HasWholePointers (bounded_exec over q fuel a s)
