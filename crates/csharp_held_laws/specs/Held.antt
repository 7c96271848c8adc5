-- What the code holds in a formed program: everything but pointers that are moved too far, and bytes that cannot be read (this profile).
use Rattle.std.specs.Prelude.{◌≡◌, ℕ, ℤ, Bool, false, List, Option}
use Rattle.c_objects.specs.Statics.{AreEightBits}
use Rattle.csharp.specs.Trees.{CsExprTree, CsStmtTree, CsProgramTree}
use Rattle.csharp.specs.States.{State}
use Rattle.csharp.specs.Formed.{Around, AreOperandsTyped, Each, IsCheckFormed, IsFormed, IsTyped}
use Rattle.csharp_typed_laws.specs.TypedStates.{IsTypedCode, IsTypedState}
use Rattle.csharp_state.specs.Unheld.{unheld}
use Rattle.csharp_exec.specs.Beginning.{unheld_start}
use Rattle.csharp_exec.specs.Meets.{comes_past, run_comes_past, unheld_action}
use Rattle.csharp_held_laws.specs.Far.{comes_far, far_action, moves_far, run_comes_far}

-- of the values of typed expressions the code does not hold pointers that are moved too far, and nothing else
abbrev pub ValuesAreHeld : Type 0
ValuesAreHeld = (q : CsProgramTree) (s : State) (e : CsExprTree) → IsTypedState q s → AreOperandsTyped q e → unheld e s ≡ moves_far e s

-- so it is with each typed statement that holds no other and calls nothing, where its check is formed
abbrev pub ActionsAreHeld : Type 0
ActionsAreHeld = (q : CsProgramTree) (s : State) (a : CsStmtTree) → IsTypedState q s → IsTyped q a → IsCheckFormed q a → unheld_action a s ≡ far_action a s

-- the first state of a formed program is held
abbrev pub StartsAreHeld : Type 0
StartsAreHeld = (q : CsProgramTree) → IsFormed q → unheld_start q ≡ false

-- a run of typed code of a formed program comes to what the code does not hold exactly where it comes to a pointer that is moved too far, or to a check of bytes
-- that cannot be read
abbrev pub CodeIsHeld : Type 0
CodeIsHeld = (over : ℕ → Bool) (q : CsProgramTree) (fuel : ℕ) (into : Option ℕ) (around : Around) (a : CsStmtTree) (s : State)
    → IsFormed q → IsTypedCode q into around a → Each (λ here b. IsCheckFormed q b) around a → IsTypedState q s
    → comes_past over q fuel a s ≡ comes_far over q fuel a s

-- and so does a run of main
abbrev pub RunsAreHeld : Type 0
RunsAreHeld = (over : ℕ → Bool) (q : CsProgramTree) (fuel : ℕ) (inputs : List ℤ)
    → IsFormed q → AreEightBits q.initial → run_comes_past over q fuel inputs ≡ run_comes_far over q fuel inputs
