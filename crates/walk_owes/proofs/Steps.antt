-- How the walk of a statement follows from the walks of its parts.
use Rattle.std.proofs.Common.{◌≡◌, ℕ, zero, suc, List, [], ◌∷◌, Option, Some, None, refl, sym, ◌∙◌, subst, ⊎_elim, inl, inr, ◌⊎◌, Bool, true, false, if◌then◌else◌}
use Rattle.std.specs.Prelude.{slice_get}
use Rattle.c_syntax_written.specs.declared.place.Pos.{Pos}
use Rattle.c_syntax.specs.declared.alarm.Alarm.{Alarm}
use Rattle.c_syntax.specs.declared.alarm.WrongKind.{WrongKind}
use Rattle.c_syntax.specs.Operand.{Operand}
use Rattle.block_mem.specs.declared.types.Value.{Value}
use Rattle.c_values.specs.Values.{truth}
use Rattle.c_values.specs.Places.{ObjectMemory}
use Rattle.c_values.specs.Looks.{Judged, Passes, FailsAs, NoOperand, judge}
use Rattle.csharp.specs.Trees.{CsExprTree, CsCheckTree, CsCallTree, CsStmtTree, Sequence, If, Loop, Block, Call, Checked, Assume, Return, CsFunctionTree, CsProgramTree}
use Rattle.csharp.specs.States.{State, value_of, look_of}
use Rattle.csharp.specs.Actions.{given_to, pass}
use Rattle.csharp.specs.Outcomes.{ByExit, ByGoto, ByReturn, Outcome, Normal, Leaves, Fails, Waiting, Stopped, Stuck, Clash, NoFuel, Over}
use Rattle.csharp.specs.Outcomes.{then_do, or_stuck, to_normal, or_waits, told, at_block, at_call}
use Rattle.csharp.specs.Meaning.{Turn, Anew, later_by, bounded_exec, call}
use Rattle.walk_owes.specs.declared.way.Way.{Way}
use Rattle.walk_owes.specs.declared.way.Way.TheVariants as ways
use Rattle.walk_owes.specs.declared.way.Target.{Target}
use Rattle.walk_owes.specs.declared.way.Kept.{Kept}
use Rattle.alarm_claims.specs.Analyzed.{Listed}
use Rattle.walk_owes.specs.Owes.{Covered, Grows, InSome, KeepsState, KeepsWay, LeavesBlock, Sound, SoundIf, returned}
use Rattle.walk_owes.specs.Loops.{Closed, OneTurn, Reaches, SoundLoop, Turns, Unrolled, from_turn}
use Rattle.walk_owes.specs.Walkable.{target_of}

module _ {M : Type 0} (stands : M → State → Type 0) (q : CsProgramTree) (to : Target) where
  -- what is kept for an outcome's way
  pub way_on : (kept more : List (Kept M)) → ((w : Way) (s : State) → KeepsState stands kept w s → KeepsState stands more w s)
      → (w : _) (s : State) → KeepsWay stands to kept w s → KeepsWay stands to more w s
  way_on kept more f (ByExit k) s h = f (ways.Exit k) s h
  way_on kept more f (ByGoto l) s h = f (ways.Goto l) s h
  way_on kept more f (ByReturn v) s h = f ways.Return (returned to v s) h

  -- what is covered stays so as the lists grow
  pub covered_on : (after : Option M) (kept more : List (Kept M)) (out later : List Alarm) → Grows stands q kept out more later
      → (o : Outcome) → Covered stands q to after kept out o → Covered stands q to after more later o
  covered_on after kept more out later g (Normal s) h = h
  covered_on after kept more out later g (Leaves w s) h = way_on kept more g.keeps w s h
  covered_on after kept more out later g (Fails c at k x m) h = g.lists c at k x m h
  covered_on after kept more out later g Waiting h = tt
  covered_on after kept more out later g Stopped h = tt
  covered_on after kept more out later g Stuck h = tt
  covered_on after kept more out later g Clash h = tt
  covered_on after kept more out later g NoFuel h = tt
  covered_on after kept more out later g Over h = tt

  pub covered_into : (mid after : Option M) (kept : List (Kept M)) (out : List Alarm) → ((s : State) → InSome stands mid s → InSome stands after s)
      → (o : Outcome) → Covered stands q to mid kept out o → Covered stands q to after kept out o
  covered_into mid after kept out f (Normal s) h = f s h
  covered_into mid after kept out f (Leaves w s) h = h
  covered_into mid after kept out f (Fails c at k x m) h = h
  covered_into mid after kept out f Waiting h = tt
  covered_into mid after kept out f Stopped h = tt
  covered_into mid after kept out f Stuck h = tt
  covered_into mid after kept out f Clash h = tt
  covered_into mid after kept out f NoFuel h = tt
  covered_into mid after kept out f Over h = tt

  -- an outcome and what comes behind it
  pub covered_then : (mid after : Option M) (kept more : List (Kept M)) (out later : List Alarm) (go : State → Outcome) → Grows stands q kept out more later
      → ((s : State) → InSome stands mid s → Covered stands q to after more later (go s))
      → (o : Outcome) → Covered stands q to mid kept out o → Covered stands q to after more later (then_do o go)
  covered_then mid after kept more out later go g f (Normal s) h = f s h
  covered_then mid after kept more out later go g f (Leaves w s) h = way_on kept more g.keeps w s h
  covered_then mid after kept more out later go g f (Fails c at k x m) h = g.lists c at k x m h
  covered_then mid after kept more out later go g f Waiting h = tt
  covered_then mid after kept more out later go g f Stopped h = tt
  covered_then mid after kept more out later go g f Stuck h = tt
  covered_then mid after kept more out later go g f Clash h = tt
  covered_then mid after kept more out later go g f NoFuel h = tt
  covered_then mid after kept more out later go g f Over h = tt

  pub grows_none : (kept : List (Kept M)) (out : List Alarm) → Grows stands q kept out kept out
  grows_none kept out = record { keeps = λ w s h. h; lists = λ c at k x m h. h }

  pub grows_both : (k k1 k2 : List (Kept M)) (o o1 o2 : List Alarm) → Grows stands q k o k1 o1 → Grows stands q k1 o1 k2 o2 → Grows stands q k o k2 o2
  grows_both k k1 k2 o o1 o2 g h =
      record { keeps = λ w s x. h.keeps w s (g.keeps w s x); lists = λ c at k x m l. h.lists c at k x m (g.lists c at k x m l) }

  -- ---- statements that act at once

  covered_normal : (after : Option M) (kept : List (Kept M)) (out : List Alarm) (t : Option State) → ((u : State) → t ≡ Some u → InSome stands after u)
      → Covered stands q to after kept out (to_normal t)
  covered_normal after kept out None f = tt
  covered_normal after kept out (Some u) f = f u refl

  pub acts_sound : (a : CsStmtTree) (act : State → Option State) (before after : M) (kept : List (Kept M)) (out : List Alarm)
      → ((over : ℕ → Bool) (n : ℕ) (s : State) → bounded_exec over q n a s ≡ to_normal (act s))
      → ((s t : State) → stands before s → act s ≡ Some t → stands after t) → Sound stands q to a (Some before) (Some after) kept out
  acts_sound a act before after kept out e f = record {
    by = λ over n s h. subst (Covered stands q to (Some after) kept out) (sym (e over n s)) (covered_normal (Some after) kept out (act s) (λ t i. f s t h i));
  }

  covered_waits : (after : Option M) (kept : List (Kept M)) (out : List Alarm) (t : Option State) → ((u : State) → t ≡ Some u → InSome stands after u)
      → Covered stands q to after kept out (or_waits t)
  covered_waits after kept out None f = tt
  covered_waits after kept out (Some u) f = f u refl

  pub waits_sound : (a : CsStmtTree) (act : State → Option State) (before after : M) (kept : List (Kept M)) (out : List Alarm)
      → ((over : ℕ → Bool) (n : ℕ) (s : State) → bounded_exec over q n a s ≡ or_waits (act s))
      → ((s t : State) → stands before s → act s ≡ Some t → stands after t) → Sound stands q to a (Some before) (Some after) kept out
  waits_sound a act before after kept out e f = record {
    by = λ over n s h. subst (Covered stands q to (Some after) kept out) (sym (e over n s)) (covered_waits (Some after) kept out (act s) (λ t i. f s t h i));
  }

  -- ---- tests

  covered_if : (b : Bool) (after : Option M) (kept : List (Kept M)) (out : List Alarm) (x y : Outcome)
      → (b ≡ true → Covered stands q to after kept out x) → (b ≡ false → Covered stands q to after kept out y)
      → Covered stands q to after kept out (if b then x else y)
  covered_if true after kept out x y f g = f refl
  covered_if false after kept out x y f g = g refl

  covered_choice : (v : Option Value) (after : Option M) (kept : List (Kept M)) (out : List Alarm) (x y : Outcome)
      → ((w : Value) → v ≡ Some w → truth w ≡ true → Covered stands q to after kept out x)
      → ((w : Value) → v ≡ Some w → truth w ≡ false → Covered stands q to after kept out y)
      → Covered stands q to after kept out (or_stuck v (λ w. if truth w then x else y))
  covered_choice None after kept out x y f g = tt
  covered_choice (Some w) after kept out x y f g = covered_if (truth w) after kept out x y (λ e. f w refl e) (λ e. g w refl e)

  pub if_sound : (e : CsExprTree) (a b : CsStmtTree) (before : M) (first second after : Option M) (k k1 : List (Kept M)) (o o1 : List Alarm)
      → SoundIf stands q to e true a before first k o → Grows stands q k o k1 o1 → SoundIf stands q to e false b before second k1 o1
      → ((s : State) → InSome stands first s → InSome stands after s) → ((s : State) → InSome stands second s → InSome stands after s)
      → Sound stands q to (If e a b) (Some before) after k1 o1
  if_sound e a b before first second after k k1 o o1 x g y f1 f2 = record {
    by = λ over n s h. covered_choice (value_of e s) after k1 o1 (bounded_exec over q n a s) (bounded_exec over q n b s)
        (λ w i j. covered_into first after k1 o1 f1 (bounded_exec over q n a s) (covered_on first k k1 o o1 g (bounded_exec over q n a s) (x.by over n s h (w, i, j))))
        (λ w i j. covered_into second after k1 o1 f2 (bounded_exec over q n b s) (y.by over n s h (w, i, j)));
  }

  pub assume_sound : (e : CsExprTree) (before : M) (after : Option M) (kept : List (Kept M)) (out : List Alarm)
      → ((s : State) (v : Value) → stands before s → value_of e s ≡ Some v → truth v ≡ true → InSome stands after s)
      → Sound stands q to (Assume e) (Some before) after kept out
  assume_sound e before after kept out f = record {
    by = λ over n s h. covered_choice (value_of e s) after kept out (Normal s) Stopped (λ w i j. f s w h i j) (λ w i j. tt);
  }

  covered_told : (after : Option M) (kept : List (Kept M)) (out : List Alarm) (j : Judged) (at : Pos) (s : State)
      → (j ≡ Passes → InSome stands after s)
      → ((k : WrongKind) (x : Operand) → j ≡ FailsAs k x → Listed q out [] at k x s.memory) → Covered stands q to after kept out (told j at s)
  covered_told after kept out Passes at s f g = f refl
  covered_told after kept out (FailsAs k x) at s f g = g k x refl
  covered_told after kept out NoOperand at s f g = tt

  pub check_sound : (c : CsCheckTree) (before : M) (after : Option M) (kept : List (Kept M)) (out : List Alarm)
      → ((s : State) → stands before s → judge q.objects (look_of c s ∷ []) ≡ Passes → InSome stands after s)
      → ((s : State) (k : WrongKind) (x : Operand) → stands before s → judge q.objects (look_of c s ∷ []) ≡ FailsAs k x → Listed q out [] c.pos k x s.memory)
      → Sound stands q to (Checked c) (Some before) after kept out
  check_sound c before after kept out f g = record {
    by = λ over n s h. covered_told after kept out (judge q.objects (look_of c s ∷ [])) c.pos s (f s h) (λ k x. g s k x h);
  }

  -- ---- sequences and blocks

  pub sequence_sound : (a b : CsStmtTree) (before mid after : Option M) (k k1 : List (Kept M)) (o o1 : List Alarm) → Sound stands q to a before mid k o
      → Grows stands q k o k1 o1 → Sound stands q to b mid after k1 o1 → Sound stands q to (Sequence a b) before after k1 o1
  sequence_sound a b before mid after k k1 o o1 x g y = record {
    by = λ over n s h. covered_then mid after k k1 o o1 (λ t. bounded_exec over q n b t) g (λ t i. y.by over n t i) (bounded_exec over q n a s) (x.by over n s h);
  }

  pub dead_sound : (a : CsStmtTree) (after : Option M) (kept : List (Kept M)) (out : List Alarm) → Sound stands q to a None after kept out
  dead_sound a after kept out = record { by = λ over n s h. absurd h }

  covered_block : (mid after : Option M) (inner kept : List (Kept M)) (out : List Alarm) → ((s : State) → InSome stands mid s → InSome stands after s)
      → LeavesBlock stands inner kept after → (o : Outcome) → Covered stands q to mid inner out o → Covered stands q to after kept out (at_block o)
  covered_block mid after inner kept out f l (Normal s) h = f s h
  covered_block mid after inner kept out f l (Leaves (ByExit zero) s) h = l (ways.Exit zero) s h
  covered_block mid after inner kept out f l (Leaves (ByExit (suc k)) s) h = l (ways.Exit (suc k)) s h
  covered_block mid after inner kept out f l (Leaves (ByGoto g) s) h = l (ways.Goto g) s h
  covered_block mid after inner kept out f l (Leaves (ByReturn v) s) h = l ways.Return (returned to v s) h
  covered_block mid after inner kept out f l (Fails c at k x m) h = h
  covered_block mid after inner kept out f l Waiting h = tt
  covered_block mid after inner kept out f l Stopped h = tt
  covered_block mid after inner kept out f l Stuck h = tt
  covered_block mid after inner kept out f l Clash h = tt
  covered_block mid after inner kept out f l NoFuel h = tt
  covered_block mid after inner kept out f l Over h = tt

  pub block_sound : (a : CsStmtTree) (before mid after : Option M) (inner kept : List (Kept M)) (out : List Alarm) → Sound stands q to a before mid inner out
      → ((s : State) → InSome stands mid s → InSome stands after s) → LeavesBlock stands inner kept after → Sound stands q to (Block a) before after kept out
  block_sound a before mid after inner kept out x f l = record {
    by = λ over n s h. covered_block mid after inner kept out f l (bounded_exec over q n a s) (x.by over n s h);
  }

  -- ---- ways out

  pub leaves_sound : (a : CsStmtTree) (way : _) (before : M) (kept : List (Kept M)) (out : List Alarm)
      → ((over : ℕ → Bool) (n : ℕ) (s : State) → bounded_exec over q n a s ≡ Leaves way s) → ((s : State) → stands before s → KeepsWay stands to kept way s)
      → Sound stands q to a (Some before) None kept out
  leaves_sound a way before kept out e f = record { by = λ over n s h. subst (Covered stands q to None kept out) (sym (e over n s)) (f s h) }

  pub return_none : (before : M) (kept : List (Kept M)) (out : List Alarm) → ((s : State) → stands before s → KeepsState stands kept ways.Return (returned to None s))
      → Sound stands q to (Return None) (Some before) None kept out
  return_none before kept out f = record { by = λ over n s h. f s h }

  covered_given : (v : Option Value) (kept : List (Kept M)) (out : List Alarm) (s : State)
      → ((w : Value) → v ≡ Some w → KeepsState stands kept ways.Return (returned to (Some w) s))
      → Covered stands q to None kept out (or_stuck v (λ w. Leaves (ByReturn (Some w)) s))
  covered_given None kept out s f = tt
  covered_given (Some w) kept out s f = f w refl

  pub return_some : (e : CsExprTree) (before : M) (kept : List (Kept M)) (out : List Alarm)
      → ((s : State) (v : Value) → stands before s → value_of e s ≡ Some v → KeepsState stands kept ways.Return (returned to (Some v) s))
      → Sound stands q to (Return (Some e)) (Some before) None kept out
  return_some e before kept out f = record { by = λ over n s h. covered_given (value_of e s) kept out s (λ w i. f s w h i) }

  -- ---- loops

  reached_by : (a : CsStmtTree) (entry head : M) → ((s : State) → stands entry s → stands head s) → Closed stands q a head
      → (over : ℕ → Bool) (k : ℕ) (s t : State) → stands entry s → Turns over q a k s t → stands head t
  reached_by a entry head f c over zero s t h e = subst (stands head) e (f s h)
  reached_by a entry head f c over (suc k) s t h e = c.by over e.1 e.0 t (reached_by a entry head f c over k s e.0 h e.2) e.3

  pub reached : (a : CsStmtTree) (entry head : M) → ((s : State) → stands entry s → stands head s) → Closed stands q a head → Reaches stands q a entry head
  reached a entry head f c = record { by = reached_by a entry head f c }

  descended_by : (a : CsStmtTree) (entry head : M) (next : Option M) (less : M) → Reaches stands q a entry head → OneTurn stands q a head next
      → ((s : State) → stands entry s → stands less s) → ((s : State) → InSome stands next s → stands less s)
      → (over : ℕ → Bool) (k : ℕ) (s t : State) → stands entry s → Turns over q a k s t → stands less t
  descended_by a entry head next less r x f1 f2 over zero s t h e = subst (stands less) e (f1 s h)
  descended_by a entry head next less r x f1 f2 over (suc k) s t h e = f2 t (x.by over e.1 e.0 t (r.by over k s e.0 h e.2) e.3)

  pub descended : (a : CsStmtTree) (entry head : M) (next : Option M) (less : M) → Reaches stands q a entry head → OneTurn stands q a head next
      → ((s : State) → stands entry s → stands less s) → ((s : State) → InSome stands next s → stands less s) → Reaches stands q a entry less
  descended a entry head next less r x f1 f2 = record { by = descended_by a entry head next less r x f1 f2 }

  pub turn_of : (a : CsStmtTree) (head : M) (next : Option M) (kept : List (Kept M)) (out : List Alarm) → Sound stands q to a (Some head) next kept out
      → OneTurn stands q a head next
  turn_of a head next kept out x = record { by = λ over n s t h e. subst (Covered stands q to next kept out) e (x.by over n s h) }

  pub closed_by : (a : CsStmtTree) (head : M) (next : Option M) → OneTurn stands q a head next → ((s : State) → InSome stands next s → stands head s)
      → Closed stands q a head
  closed_by a head next x f = record { by = λ over n s t h e. f t (x.by over n s t h e) }

  -- one turn of a loop, whose normal end is none of the loop
  covered_turn : (after : Option M) (kept : List (Kept M)) (out : List Alarm) (go : State → Outcome) (o : Outcome)
      → Covered stands q to after kept out o → ((s : State) → o ≡ Normal s → Covered stands q to None kept out (go s)) → Covered stands q to None kept out (then_do o go)
  covered_turn after kept out go (Normal s) h f = f s refl
  covered_turn after kept out go (Leaves w s) h f = h
  covered_turn after kept out go (Fails c at k x m) h f = h
  covered_turn after kept out go Waiting h f = tt
  covered_turn after kept out go Stopped h f = tt
  covered_turn after kept out go Stuck h f = tt
  covered_turn after kept out go Clash h f = tt
  covered_turn after kept out go NoFuel h f = tt
  covered_turn after kept out go Over h f = tt

  covered_over : (b : Bool) (after : Option M) (kept : List (Kept M)) (out : List Alarm) (go : State → Outcome) (o : Outcome)
      → Covered stands q to after kept out o → ((s : State) → o ≡ Normal s → Covered stands q to None kept out (go s))
      → Covered stands q to None kept out (if b then Over else then_do o go)
  covered_over true after kept out go o h f = tt
  covered_over false after kept out go o h f = covered_turn after kept out go o h f

  loop_by : (at : Pos) (a : CsStmtTree) (entry head : M) (after : Option M) (kept : List (Kept M)) (out : List Alarm) → Reaches stands q a entry head
      → Sound stands q to a (Some head) after kept out → (over : ℕ → Bool) (n k j : ℕ) (s t : State) → stands entry s → Turns over q a j s t
      → Covered stands q to None kept out (from_turn over q n k at a t)
  loop_by at a entry head after kept out r x over zero k j s t h e =
      covered_over (over k) after kept out (λ u. NoFuel) (bounded_exec over q zero a t) (x.by over zero t (r.by over j s t h e)) (λ u i. tt)
  loop_by at a entry head after kept out r x over (suc m) k j s t h e =
      covered_over (over k) after kept out (λ u. from_turn over q m (suc k) at a u) (bounded_exec over q (suc m) a t) (x.by over (suc m) t (r.by over j s t h e))
      (λ u i. loop_by at a entry head after kept out r x over m (suc k) (suc j) s u h (t, suc m, e, i))

  pub loop_sound : (at : Pos) (a : CsStmtTree) (entry head : M) (after : Option M) (kept : List (Kept M)) (out : List Alarm) → Reaches stands q a entry head
      → Sound stands q to a (Some head) after kept out → SoundLoop stands q to at a entry kept out
  loop_sound at a entry head after kept out r x = record { by = λ over n k s h. loop_by at a entry head after kept out r x over n k zero s s h refl }

  pub whole_loop : (at : Pos) (a : CsStmtTree) (entry : M) (kept : List (Kept M)) (out : List Alarm) → SoundLoop stands q to at a entry kept out
      → Sound stands q to (Loop at a) (Some entry) None kept out
  whole_loop at a entry kept out x = record { by = λ over n s h. x.by over n 0 s h }

  pub unrolled_none : (at : Pos) (a : CsStmtTree) (entry : M) (kept : List (Kept M)) (out : List Alarm) → Unrolled stands q to at a entry entry kept out
  unrolled_none at a entry kept out = record { by = λ over n k s h. inr (n, k, s, h, refl) }

  turn_case : (next : Option M) (kept : List (Kept M)) (out : List Alarm) (over : ℕ → Bool) (n k : ℕ) (at : Pos) (a : CsStmtTree) (o : Outcome) → Covered stands q to next kept out o
      → Covered stands q to None kept out (then_do o (λ u. (later_by over q n).statement (Turn (suc k)) (Loop at a) u))
      ⊎ ((m : ℕ) × (j : ℕ) × (u : State) × InSome stands next u
      × (then_do o (λ v. (later_by over q n).statement (Turn (suc k)) (Loop at a) v) ≡ from_turn over q m j at a u))
  turn_case next kept out over zero k at a (Normal s) h = inl tt
  turn_case next kept out over (suc n) k at a (Normal s) h = inr (n, suc k, s, h, refl)
  turn_case next kept out over n k at a (Leaves w s) h = inl h
  turn_case next kept out over n k at a (Fails c p w x m) h = inl h
  turn_case next kept out over n k at a Waiting h = inl tt
  turn_case next kept out over n k at a Stopped h = inl tt
  turn_case next kept out over n k at a Stuck h = inl tt
  turn_case next kept out over n k at a Clash h = inl tt
  turn_case next kept out over n k at a NoFuel h = inl tt
  turn_case next kept out over n k at a Over h = inl tt

  over_case : (b : Bool) (next : Option M) (kept : List (Kept M)) (out : List Alarm) (over : ℕ → Bool) (n k : ℕ) (at : Pos) (a : CsStmtTree) (o : Outcome) → Covered stands q to next kept out o
      → Covered stands q to None kept out (if b then Over else then_do o (λ u. (later_by over q n).statement (Turn (suc k)) (Loop at a) u))
      ⊎ ((m : ℕ) × (j : ℕ) × (u : State) × InSome stands next u
      × ((if b then Over else then_do o (λ v. (later_by over q n).statement (Turn (suc k)) (Loop at a) v)) ≡ from_turn over q m j at a u))
  over_case true next kept out over n k at a o h = inl tt
  over_case false next kept out over n k at a o h = turn_case next kept out over n k at a o h

  unrolled_turn : (at : Pos) (a : CsStmtTree) (head : M) (next : Option M) (kept : List (Kept M)) (out : List Alarm) → Sound stands q to a (Some head) next kept out
      → (over : ℕ → Bool) (n k : ℕ) (s : State) → stands head s → Covered stands q to None kept out (from_turn over q n k at a s)
      ⊎ ((m : ℕ) × (j : ℕ) × (u : State) × InSome stands next u × (from_turn over q n k at a s ≡ from_turn over q m j at a u))
  unrolled_turn at a head next kept out x over n k s h = over_case (over k) next kept out over n k at a (bounded_exec over q n a s) (x.by over n s h)

  pub unrolled_more : (at : Pos) (a : CsStmtTree) (entry head next : M) (kept more : List (Kept M)) (out later : List Alarm)
      → Unrolled stands q to at a entry head kept out → Sound stands q to a (Some head) (Some next) more later → Grows stands q kept out more later
      → Unrolled stands q to at a entry next more later
  unrolled_more at a entry head next kept more out later u x g = record {
    by = λ over n k s h. ⊎_elim (λ c. inl (covered_on None kept more out later g (from_turn over q n k at a s) c))
        (λ w. ⊎_elim (λ c. inl (subst (Covered stands q to None more later) (sym w.4) c)) (λ z. inr (z.0, z.1, z.2, z.3, w.4 ∙ z.4))
        (unrolled_turn at a head (Some next) more later x over w.0 w.1 w.2 w.3))
        (u.by over n k s h);
  }

  pub unrolled_dead : (at : Pos) (a : CsStmtTree) (entry head : M) (kept more : List (Kept M)) (out later : List Alarm)
      → Unrolled stands q to at a entry head kept out → Sound stands q to a (Some head) None more later → Grows stands q kept out more later
      → SoundLoop stands q to at a entry more later
  unrolled_dead at a entry head kept more out later u x g = record {
    by = λ over n k s h. ⊎_elim (λ c. covered_on None kept more out later g (from_turn over q n k at a s) c)
        (λ w. ⊎_elim (λ c. subst (Covered stands q to None more later) (sym w.4) c) (λ z. absurd z.3)
        (unrolled_turn at a head None more later x over w.0 w.1 w.2 w.3))
        (u.by over n k s h);
  }

  pub unrolled_end : (at : Pos) (a : CsStmtTree) (entry head : M) (kept more : List (Kept M)) (out later : List Alarm)
      → Unrolled stands q to at a entry head kept out → SoundLoop stands q to at a head more later → Grows stands q kept out more later
      → SoundLoop stands q to at a entry more later
  unrolled_end at a entry head kept more out later u x g = record {
    by = λ over n k s h. ⊎_elim (λ c. covered_on None kept more out later g (from_turn over q n k at a s) c)
        (λ w. subst (Covered stands q to None more later) (sym w.4) (x.by over w.0 w.1 w.2 w.3))
        (u.by over n k s h);
  }

-- ---- calls

module _ {M : Type 0} (stands : M → State → Type 0) (q : CsProgramTree) (to : Target) where
  given_is : (c : CsCallTree) (v : Option Value) (s : State) → given_to c v s ≡ returned (target_of c) v s
  given_is c None s = refl
  given_is c (Some v) s = refl

  covered_call : (c : CsCallTree) (mid after : Option M) (inner kept : List (Kept M)) (found out : List Alarm)
      → ((s : State) → InSome stands mid s → InSome stands after (returned (target_of c) None s))
      → ((s : State) → KeepsState stands inner ways.Return s → InSome stands after s)
      → ((calls : List Pos) (at : Pos) (k : WrongKind) (x : Operand) (m : ObjectMemory) → Listed q found calls at k x m → Listed q out (c.pos ∷ calls) at k x m)
      → (o : Outcome) → Covered stands q (target_of c) mid inner found o → Covered stands q to after kept out (at_call c o)
  covered_call c mid after inner kept found out f r l (Normal s) h = f s h
  covered_call c mid after inner kept found out f r l (Leaves (ByExit k) s) h = tt
  covered_call c mid after inner kept found out f r l (Leaves (ByGoto g) s) h = tt
  covered_call c mid after inner kept found out f r l (Leaves (ByReturn v) s) h =
      subst (InSome stands after) (sym (given_is c v s)) (r (returned (target_of c) v s) h)
  covered_call c mid after inner kept found out f r l (Fails calls at k x m) h = l calls at k x m h
  covered_call c mid after inner kept found out f r l Waiting h = tt
  covered_call c mid after inner kept found out f r l Stopped h = tt
  covered_call c mid after inner kept found out f r l Stuck h = tt
  covered_call c mid after inner kept found out f r l Clash h = tt
  covered_call c mid after inner kept found out f r l NoFuel h = tt
  covered_call c mid after inner kept found out f r l Over h = tt

  covered_passed : (over : ℕ → Bool) (n : ℕ) (c : CsCallTree) (f : CsFunctionTree) (entered : M) (mid after : Option M) (inner kept : List (Kept M)) (found out : List Alarm)
      → Sound stands q (target_of c) f.body (Some entered) mid inner found
      → ((o : Outcome) → Covered stands q (target_of c) mid inner found o → Covered stands q to after kept out (at_call c o))
      → (t : Option State) → ((u : State) → t ≡ Some u → stands entered u)
      → Covered stands q to after kept out (or_stuck t (λ u. at_call c ((later_by over q n).statement Anew f.body u)))
  covered_passed over n c f entered mid after inner kept found out x g None p = tt
  covered_passed over zero c f entered mid after inner kept found out x g (Some u) p = tt
  covered_passed over (suc n) c f entered mid after inner kept found out x g (Some u) p = g (bounded_exec over q n f.body u) (x.by over n u (p u refl))

  covered_function : (over : ℕ → Bool) (n : ℕ) (c : CsCallTree) (after : Option M) (kept : List (Kept M)) (out : List Alarm) (s : State) (o : Option CsFunctionTree)
      → ((f : CsFunctionTree) → o ≡ Some f → Covered stands q to after kept out (call (later_by over q n) c f s))
      → Covered stands q to after kept out (or_stuck o (λ f. call (later_by over q n) c f s))
  covered_function over n c after kept out s None g = tt
  covered_function over n c after kept out s (Some f) g = g f refl

  pub call_sound : (c : CsCallTree) (f : CsFunctionTree) (before entered : M) (mid after : Option M) (inner kept : List (Kept M)) (found out : List Alarm)
      → slice_get q.functions c.function ≡ Some f
      → ((s t : State) → stands before s → pass c.args f.params s ≡ Some t → stands entered t)
      → Sound stands q (target_of c) f.body (Some entered) mid inner found
      → ((s : State) → InSome stands mid s → InSome stands after (returned (target_of c) None s))
      → ((s : State) → KeepsState stands inner ways.Return s → InSome stands after s)
      → ((calls : List Pos) (at : Pos) (k : WrongKind) (x : Operand) (m : ObjectMemory) → Listed q found calls at k x m → Listed q out (c.pos ∷ calls) at k x m)
      → Sound stands q to (Call c) (Some before) after kept out
  call_sound c f before entered mid after inner kept found out there p x fallen given lists = record {
    by = λ over n s h. rw there (covered_passed over n c f entered mid after inner kept found out x
        (covered_call c mid after inner kept found out fallen given lists) (pass c.args f.params s) (λ u i. p s u h i));
  }

  pub call_none : (c : CsCallTree) (before after : Option M) (kept : List (Kept M)) (out : List Alarm) → slice_get q.functions c.function ≡ None
      → Sound stands q to (Call c) before after kept out
  call_none c before after kept out there = record { by = λ over n s h. rw there tt }
