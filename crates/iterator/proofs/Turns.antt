-- What the turn of a loop comes to is kept and listed with what was there.
use Rattle.std.proofs.Common.{◌≡◌, ℕ, suc, Bool, true, List, [], Option, Some, None, arith, false, refl, subst, sym}
use Rattle.std.proofs.lemmas.Bool.{lt-ltb}
use Rattle.c_syntax_written.specs.declared.place.Pos.{Pos}
use Rattle.c_syntax.specs.declared.alarm.Alarm.{Alarm}
use Rattle.csharp.specs.Trees.{CsProgramTree, CsStmtTree}
use Rattle.csharp.specs.States.{State}
use Rattle.csharp.specs.Meaning.{beyond}
use Rattle.walk_owes.specs.declared.way.Target.{Target}
use Rattle.walk_owes.specs.declared.way.Kept.{Kept}
use Rattle.walk_owes.specs.Owes.{Grows, InSome, Sound}
use Rattle.walk_owes.specs.Exactly.{Exact, ExactLoop, LastPass, Rests, Rolled}
use Rattle.walk_owes.specs.Loops.{Closed, Reaches, SoundLoop, from_turn}
use Rattle.walk_owes.proofs.Turning.{pass_last, rests_candidate, rests_start, rolled_end, rolled_more}
use Rattle.walk_owes.proofs.Steps.{closed_by, covered_on, descended, turn_of}

module _ {M : Type 0} (stands : M → State → Type 0) (q : CsProgramTree) (to : Target) where
  pub loop_into : (at : Pos) (a : CsStmtTree) (entry : M) (kept more : List (Kept M)) (out later : List Alarm) → SoundLoop stands q to at a entry kept out
      → Grows stands q kept out more later → SoundLoop stands q to at a entry more later
  loop_into at a entry kept more out later x g =
      record { by = λ over n k s h. covered_on stands q to None kept more out later g (from_turn over q n k at a s) (x.by over n k s h) }

  -- a turn that comes back within the set
  pub turn_stays : (a : CsStmtTree) (head : M) (next : Option M) (kept : List (Kept M)) (out : List Alarm) → Sound stands q to a (Some head) next kept out
      → ((s : State) → InSome stands next s → stands head s) → Closed stands q a head
  turn_stays a head next kept out x f = closed_by stands q to a head next (turn_of stands q to a head next kept out x) f

  -- a set that has the entry and what a turn leads to
  pub turn_descends : (a : CsStmtTree) (entry head : M) (next : Option M) (kept : List (Kept M)) (out : List Alarm) (less : M) → Reaches stands q a entry head
      → Sound stands q to a (Some head) next kept out → ((s : State) → stands entry s → stands less s) → ((s : State) → InSome stands next s → stands less s)
      → Reaches stands q a entry less
  turn_descends a entry head next kept out less r x f1 f2 = descended stands q to a entry head next less r (turn_of stands q to a head next kept out x) f1 f2

-- one turn more than may be made
pub beyond_next : (bound : ℕ) → beyond bound (suc bound) ≡ true
beyond_next bound = lt-ltb bound (suc bound) (omega arith)

-- turns are alike at each place
nowhere_at : Pos
nowhere_at = record { file = 0; line = 0; col = 0 }

module _ {M : Type 0} (sharp : M → State → Type 0) (over : ℕ → Bool) (q : CsProgramTree) (to : Target) (a : CsStmtTree) where
  pub turns_start : (entry : M) → Rests sharp over q a entry entry
  turns_start entry = rests_start sharp over q to nowhere_at a entry

  -- a turn that came back
  pub turns_on : (entry head : M) (next : Option M) (kept : List (Kept M)) (out : List Alarm) → LastPass sharp over q to a entry next kept out → (next ≡ None → ⊥)
      → Rests sharp over q a entry head
  turns_on entry head next kept out x f = rests_candidate sharp over q to nowhere_at a entry head next kept out x (λ e. absurd (f e))

  pub turns_last : (entry head : M) (next : Option M) (kept : List (Kept M)) (out : List Alarm) → Rests sharp over q a entry head
      → Exact sharp over q to a (Some head) next [] [] kept out → LastPass sharp over q to a entry next kept out
  turns_last entry head next kept out r x = pass_last sharp over q to nowhere_at a entry head next [] kept [] out r refl refl x

  -- a step of narrowing
  pub turns_again : (entry head : M) (next after : Option M) (kept more : List (Kept M)) (out later : List Alarm) → LastPass sharp over q to a entry next kept out
      → (next ≡ None → head ≡ entry) → Exact sharp over q to a (Some head) after [] [] more later → LastPass sharp over q to a entry after more later
  turns_again entry head next after kept more out later x f y =
      turns_last entry head after more later (rests_candidate sharp over q to nowhere_at a entry head next kept out x f) y

-- turns by their number
module _ {M : Type 0} (sharp : M → State → Type 0) (over : ℕ → Bool) (q : CsProgramTree) (to : Target) (at : Pos) (a : CsStmtTree) where
  pub rolled_next : (entry : M) (turns after : ℕ) (head next : M) (k k1 k2 : List (Kept M)) (o o1 o2 : List Alarm) → after ≡ suc turns
      → Rolled sharp over q at a entry turns head k o k1 o1 → Exact sharp over q to a (Some head) (Some next) k1 o1 k2 o2
      → Rolled sharp over q at a entry after next k o k2 o2
  rolled_next entry turns after head next k k1 k2 o o1 o2 e r x =
      subst (λ n. Rolled sharp over q at a entry n next k o k2 o2) (sym e) (rolled_more sharp over q to at a entry turns head next k k1 k2 o o1 o2 r x)

  pub rolled_over : (entry : M) (turns bound : ℕ) (head : M) (k k1 k2 : List (Kept M)) (o o1 o2 : List Alarm) → turns ≡ bound
      → Rolled sharp over q at a entry turns head k o k1 o1 → ExactLoop sharp over q to at a bound head k1 o1 k2 o2
      → ExactLoop sharp over q to at a 0 entry k o k2 o2
  rolled_over entry turns bound head k k1 k2 o o1 o2 e r x =
      rolled_end sharp over q to at a entry bound head k k1 k2 o o1 o2 (subst (λ n. Rolled sharp over q at a entry n head k o k1 o1) e r) x

-- widening told that the set fell, and that it did not
pub fell_not : (b : Bool) → b ≡ true → b ≡ false → ⊥
fell_not b e f = absurd (cc)
