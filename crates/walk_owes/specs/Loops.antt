-- Loops: what turns lead to.
use Rattle.std.specs.Prelude.{◌≡◌, ◌⊎◌, ℕ, zero, suc, Bool, List, Option, None}
use Rattle.c_syntax_written.specs.declared.place.Pos.{Pos}
use Rattle.c_syntax.specs.declared.alarm.Alarm.{Alarm}
use Rattle.csharp.specs.Trees.{CsStmtTree, Loop, CsProgramTree}
use Rattle.csharp.specs.States.{State}
use Rattle.csharp.specs.Outcomes.{Outcome, Normal}
use Rattle.csharp.specs.Meaning.{Turn, later_by, level, bounded_exec}
use Rattle.walk_owes.specs.declared.way.Target.{Target}
use Rattle.walk_owes.specs.declared.way.Kept.{Kept}
use Rattle.walk_owes.specs.Owes.{InSome, Covered}

-- what a loop comes to that has made some turns
abbrev pub from_turn : (ℕ → Bool) → CsProgramTree → ℕ → ℕ → Pos → CsStmtTree → State → Outcome
from_turn over q n k at a s = level over q (later_by over q n) (Turn k) (Loop at a) s

-- each outcome of the loop is covered, after any number of turns
pub record SoundLoop {M : Type 0} (stands : M → State → Type 0) (q : CsProgramTree) (to : Target) (at : Pos) (a : CsStmtTree) (entry : M)
    (kept : List (Kept M)) (out : List Alarm) : Type 0 where
  pub by : (over : ℕ → Bool) (n k : ℕ) (s : State) → stands entry s → Covered stands q to None kept out (from_turn over q n k at a s)

-- where a turn leads from a state
pub record OneTurn {M : Type 0} (stands : M → State → Type 0) (q : CsProgramTree) (a : CsStmtTree) (head : M) (next : Option M) : Type 0 where
  pub by : (over : ℕ → Bool) (n : ℕ) (s t : State) → stands head s → bounded_exec over q n a s ≡ Normal t → InSome stands next t

-- a turn stays in the set
pub record Closed {M : Type 0} (stands : M → State → Type 0) (q : CsProgramTree) (a : CsStmtTree) (head : M) : Type 0 where
  pub by : (over : ℕ → Bool) (n : ℕ) (s t : State) → stands head s → bounded_exec over q n a s ≡ Normal t → stands head t

-- from one state to another by so many turns, each with some fuel
abbrev pub Turns : (ℕ → Bool) → CsProgramTree → CsStmtTree → ℕ → State → State → Type 0
Turns over q a zero s t = s ≡ t
Turns over q a (suc k) s t = (mid : State) × (n : ℕ) × Turns over q a k s mid × (bounded_exec over q n a mid ≡ Normal t)

-- the set has all that turns lead to
pub record Reaches {M : Type 0} (stands : M → State → Type 0) (q : CsProgramTree) (a : CsStmtTree) (entry head : M) : Type 0 where
  pub by : (over : ℕ → Bool) (k : ℕ) (s t : State) → stands entry s → Turns over q a k s t → stands head t

-- what is known of a loop after some turns that were walked one by one
pub record Unrolled {M : Type 0} (stands : M → State → Type 0) (q : CsProgramTree) (to : Target) (at : Pos) (a : CsStmtTree) (entry head : M)
    (kept : List (Kept M)) (out : List Alarm) : Type 0 where
  pub by : (over : ℕ → Bool) (n k : ℕ) (s : State) → stands entry s → Covered stands q to None kept out (from_turn over q n k at a s)
      ⊎ ((m : ℕ) × (j : ℕ) × (t : State) × stands head t × (from_turn over q n k at a s ≡ from_turn over q m j at a t))
