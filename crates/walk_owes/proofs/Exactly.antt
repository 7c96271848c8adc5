-- How the exact walk of a statement follows from the exact walks of its parts.
use Rattle.std.proofs.Common.{◌≡◌, ℕ, zero, suc, List, [], ◌∷◌, Option, Some, None, refl, sym, ◌∙◌, subst, Bool, true, false, if◌then◌else◌}
use Rattle.std.specs.Prelude.{◌≢◌}
use Rattle.c_syntax_written.specs.declared.place.Pos.{Pos}
use Rattle.c_syntax.specs.declared.alarm.Alarm.{Alarm}
use Rattle.c_syntax.specs.declared.alarm.WrongKind.{WrongKind}
use Rattle.c_syntax.specs.Operand.{Operand}
use Rattle.block_mem.specs.declared.types.Value.{Value}
use Rattle.c_values.specs.Values.{truth}
use Rattle.c_values.specs.Looks.{Judged, Passes, FailsAs, NoOperand, judge}
use Rattle.csharp.specs.Trees.{CsExprTree, CsCheckTree, CsStmtTree, Sequence, If, Block, Checked, Assume, CsProgramTree}
use Rattle.csharp.specs.States.{State, value_of, look_of}
use Rattle.csharp.specs.Outcomes.{ByExit, ByGoto, ByReturn, Outcome, Normal, Leaves, Fails, Waiting, Stopped, Stuck, Clash, NoFuel, Over}
use Rattle.csharp.specs.Outcomes.{then_do, or_stuck, to_normal, or_waits, told, at_block}
use Rattle.csharp.specs.Meaning.{bounded_exec}
use Rattle.csharp.specs.Formed.{in_block}
use Rattle.alarm_claims.specs.ExactFor.{ListedAlone}
use Rattle.walk_owes.specs.declared.way.Way.TheVariants as ways
use Rattle.walk_owes.specs.declared.way.Target.{Target}
use Rattle.walk_owes.specs.declared.way.Kept.{Kept}
use Rattle.walk_owes.specs.Owes.{InSome}
use Rattle.walk_owes.specs.Exactly.{Exact, ExactIf, Exactly, IsEnd, IsOver, IsSilent, KeptWayAlone, LeadsOn, OutOf, StaysDead}

-- ---- what leads on

pub leads_first : (a b : CsStmtTree) → LeadsOn (Sequence a b) → LeadsOn a
leads_first a b h = record { around = h.around; each = h.each.1 }

pub leads_second : (a b : CsStmtTree) → LeadsOn (Sequence a b) → LeadsOn b
leads_second a b h = record { around = h.around; each = h.each.2 }

pub leads_then : (e : CsExprTree) (a b : CsStmtTree) → LeadsOn (If e a b) → LeadsOn a
leads_then e a b h = record { around = h.around; each = h.each.1 }

pub leads_else : (e : CsExprTree) (a b : CsStmtTree) → LeadsOn (If e a b) → LeadsOn b
leads_else e a b h = record { around = h.around; each = h.each.2 }

pub leads_block : (a : CsStmtTree) → LeadsOn (Block a) → LeadsOn a
leads_block a h = record { around = in_block h.around; each = h.each.1 }

module _ {M : Type 0} (sharp : M → State → Type 0) (q : CsProgramTree) (to : Target) where
  way_same : (kept more : List (Kept M)) → more ≡ kept → (w : _) (s : State) → KeptWayAlone sharp to kept w s → KeptWayAlone sharp to more w s
  way_same kept more e w s h = subst (λ k. KeptWayAlone sharp to k w s) (sym e) h

  pub exactly_same : (mid after : Option M) (kept more : List (Kept M)) (out later : List Alarm) (o : Outcome) → after ≡ mid → more ≡ kept → later ≡ out
      → Exactly sharp q to mid kept out o → Exactly sharp q to after more later o
  exactly_same mid after kept more out later o d e f h =
      subst (λ x. Exactly sharp q to x more later o) (sym d) (subst (λ x. Exactly sharp q to mid x later o) (sym e)
      (subst (λ x. Exactly sharp q to mid kept x o) (sym f) h))

  -- an outcome that ended the walk, where nothing was done any more
  pub exactly_moved : (mid after : Option M) (kept more : List (Kept M)) (out later : List Alarm) (o : Outcome) → IsOver o
      → (mid ≡ None → (after ≡ None) × (more ≡ kept) × (later ≡ out)) → Exactly sharp q to mid kept out o → Exactly sharp q to after more later o
  exactly_moved mid after kept more out later (Normal s) e f h = absurd e
  exactly_moved mid after kept more out later (Leaves w s) e f h = let d = f h.0 in (d.0, way_same kept more d.1 w s h.1, d.2 ∙ h.2)
  exactly_moved mid after kept more out later (Fails c at k x m) e f h =
      let d = f h.0 in (d.0, d.1 ∙ h.1, subst (λ l. ListedAlone q l c at k x m) (sym d.2) h.2)
  exactly_moved mid after kept more out later Stopped e f h = let d = f h.0 in (d.0, d.1 ∙ h.1, d.2 ∙ h.2)
  exactly_moved mid after kept more out later Waiting e f h = tt
  exactly_moved mid after kept more out later Stuck e f h = tt
  exactly_moved mid after kept more out later Clash e f h = tt
  exactly_moved mid after kept more out later NoFuel e f h = tt
  exactly_moved mid after kept more out later Over e f h = tt

  pub exactly_silent : (after : Option M) (kept : List (Kept M)) (out : List Alarm) (o : Outcome) → IsSilent o → Exactly sharp q to after kept out o
  exactly_silent after kept out (Normal s) h = absurd h
  exactly_silent after kept out (Leaves w s) h = absurd h
  exactly_silent after kept out (Fails c at k x m) h = absurd h
  exactly_silent after kept out Stopped h = absurd h
  exactly_silent after kept out Waiting h = tt
  exactly_silent after kept out Stuck h = tt
  exactly_silent after kept out Clash h = tt
  exactly_silent after kept out NoFuel h = tt
  exactly_silent after kept out Over h = tt

  pub end_dead : (next : Option M) (kept : List (Kept M)) (out : List Alarm) (o : Outcome) → IsEnd o → Exactly sharp q to next kept out o → next ≡ None
  end_dead next kept out (Normal s) e h = absurd e
  end_dead next kept out (Leaves w s) e h = h.0
  end_dead next kept out (Fails c at k x m) e h = h.0
  end_dead next kept out Stopped e h = h.0
  end_dead next kept out Waiting e h = absurd e
  end_dead next kept out Stuck e h = absurd e
  end_dead next kept out Clash e h = absurd e
  end_dead next kept out NoFuel e h = absurd e
  end_dead next kept out Over e h = absurd e

  -- an outcome and what comes behind it
  pub exactly_then : (mid after : Option M) (kept more : List (Kept M)) (out later : List Alarm) (go : State → Outcome) (o : Outcome)
      → ((s : State) → InSome sharp mid s → kept ≡ [] → out ≡ [] → Exactly sharp q to after more later (go s))
      → (mid ≡ None → (after ≡ None) × (more ≡ kept) × (later ≡ out))
      → Exactly sharp q to mid kept out o → Exactly sharp q to after more later (then_do o go)
  exactly_then mid after kept more out later go (Normal s) f d h = f s h.0 h.1 h.2
  exactly_then mid after kept more out later go (Leaves w s) f d h = exactly_moved mid after kept more out later (Leaves w s) tt d h
  exactly_then mid after kept more out later go (Fails c at k x m) f d h = exactly_moved mid after kept more out later (Fails c at k x m) tt d h
  exactly_then mid after kept more out later go Stopped f d h = exactly_moved mid after kept more out later Stopped tt d h
  exactly_then mid after kept more out later go Waiting f d h = tt
  exactly_then mid after kept more out later go Stuck f d h = tt
  exactly_then mid after kept more out later go Clash f d h = tt
  exactly_then mid after kept more out later go NoFuel f d h = tt
  exactly_then mid after kept more out later go Over f d h = tt

  module _ (over : ℕ → Bool) where
    -- ---- statements that act at once

    exactly_normal : (after : Option M) (kept : List (Kept M)) (out : List Alarm) (t : Option State) → kept ≡ [] → out ≡ []
        → ((u : State) → t ≡ Some u → InSome sharp after u) → Exactly sharp q to after kept out (to_normal t)
    exactly_normal after kept out None i j f = tt
    exactly_normal after kept out (Some u) i j f = (f u refl, i, j)

    pub acts_exact : (a : CsStmtTree) (act : State → Option State) (before after : M) (kept : List (Kept M)) (out : List Alarm)
        → ((n : ℕ) (s : State) → bounded_exec over q n a s ≡ to_normal (act s))
        → ((s t : State) → sharp before s → act s ≡ Some t → sharp after t)
        → Exact sharp over q to a (Some before) (Some after) kept out kept out
    acts_exact a act before after kept out e f = record {
      by = λ b l n s h i j. subst (Exactly sharp q to (Some after) kept out) (sym (e n s)) (exactly_normal (Some after) kept out (act s) i j (λ t k. f s t h k));
    }

    exactly_waits : (after : Option M) (kept : List (Kept M)) (out : List Alarm) (t : Option State) → kept ≡ [] → out ≡ []
        → ((u : State) → t ≡ Some u → InSome sharp after u) → Exactly sharp q to after kept out (or_waits t)
    exactly_waits after kept out None i j f = tt
    exactly_waits after kept out (Some u) i j f = (f u refl, i, j)

    pub waits_exact : (a : CsStmtTree) (act : State → Option State) (before after : M) (kept : List (Kept M)) (out : List Alarm)
        → ((n : ℕ) (s : State) → bounded_exec over q n a s ≡ or_waits (act s))
        → ((s t : State) → sharp before s → act s ≡ Some t → sharp after t)
        → Exact sharp over q to a (Some before) (Some after) kept out kept out
    waits_exact a act before after kept out e f = record {
      by = λ b l n s h i j. subst (Exactly sharp q to (Some after) kept out) (sym (e n s)) (exactly_waits (Some after) kept out (act s) i j (λ t k. f s t h k));
    }

    -- a statement that does nothing
    pub nothing_exact : (a : CsStmtTree) (before : Option M) (kept : List (Kept M)) (out : List Alarm)
        → ((n : ℕ) (s : State) → bounded_exec over q n a s ≡ Normal s) → Exact sharp over q to a before before kept out kept out
    nothing_exact a before kept out e = record {
      by = λ b l n s h i j. subst (Exactly sharp q to before kept out) (sym (e n s)) (h, i, j);
    }

    -- ---- tests

    exactly_if : (b : Bool) (after : Option M) (kept : List (Kept M)) (out : List Alarm) (x y : Outcome)
        → (b ≡ true → Exactly sharp q to after kept out x) → (b ≡ false → Exactly sharp q to after kept out y)
        → Exactly sharp q to after kept out (if b then x else y)
    exactly_if true after kept out x y f g = f refl
    exactly_if false after kept out x y f g = g refl

    exactly_choice : (v : Option Value) (after : Option M) (kept : List (Kept M)) (out : List Alarm) (x y : Outcome)
        → ((w : Value) → v ≡ Some w → truth w ≡ true → Exactly sharp q to after kept out x)
        → ((w : Value) → v ≡ Some w → truth w ≡ false → Exactly sharp q to after kept out y)
        → Exactly sharp q to after kept out (or_stuck v (λ w. if truth w then x else y))
    exactly_choice None after kept out x y f g = tt
    exactly_choice (Some w) after kept out x y f g = exactly_if (truth w) after kept out x y (λ e. f w refl e) (λ e. g w refl e)

    not_false : (b : Bool) → b ≡ true → b ≢ false
    not_false b e f = cc

    not_true : (b : Bool) → b ≡ false → b ≢ true
    not_true b e f = cc

    pub if_exact : (e : CsExprTree) (a b : CsStmtTree) (before other : M) (first second after : Option M) (k k1 k2 : List (Kept M)) (o o1 o2 : List Alarm)
        → other ≡ before → ExactIf sharp over q to e true a before first k o k1 o1 → ExactIf sharp over q to e false b other second k1 o1 k2 o2
        → (second ≡ None → after ≡ first) → (first ≡ None → after ≡ second) → Exact sharp over q to (If e a b) (Some before) after k o k2 o2
    if_exact e a b before other first second after k k1 k2 o o1 o2 same x y f1 f2 = record {
      by = λ bs l n s h i j. let g = subst (λ m. sharp m s) (sym same) h in
          exactly_choice (value_of e s) after k2 o2 (bounded_exec over q n a s) (bounded_exec over q n b s)
          (λ w t z. let d = y.dead s w g t (not_false (truth w) z) in
          exactly_same first after k1 k2 o1 o2 (bounded_exec over q n a s) (f1 d.0) d.1 d.2 (x.by bs (leads_then e a b l) n s h (w, t, z) i j))
          (λ w t z. let d = x.dead s w h t (not_true (truth w) z) in
          exactly_same second after k2 k2 o2 o2 (bounded_exec over q n b s) (f2 d.0) refl refl
          (y.by bs (leads_else e a b l) n s g (w, t, z) (d.1 ∙ i) (d.2 ∙ j)));
    }

    -- a side that is walked, and one that is not
    pub side_walked : (e : CsExprTree) (b : Bool) (a : CsStmtTree) (before tested : M) (after : Option M) (k k1 : List (Kept M)) (o o1 : List Alarm)
        → ((s : State) (v : Value) → sharp before s → value_of e s ≡ Some v → truth v ≡ b → sharp tested s)
        → ((s : State) (v : Value) → sharp before s → value_of e s ≡ Some v → truth v ≢ b → ⊥)
        → Exact sharp over q to a (Some tested) after k o k1 o1 → ExactIf sharp over q to e b a before after k o k1 o1
    side_walked e b a before tested after k k1 o o1 f g x = record {
      by = λ bs l n s h t i j. x.by bs l n s (f s t.0 h t.1 t.2) i j;
      dead = λ s v h i t. absurd (g s v h i t);
    }

    pub side_dead : (e : CsExprTree) (b : Bool) (a : CsStmtTree) (before : M) (k : List (Kept M)) (o : List Alarm)
        → ((s : State) (v : Value) → sharp before s → value_of e s ≡ Some v → truth v ≡ b → ⊥) → ExactIf sharp over q to e b a before None k o k o
    side_dead e b a before k o f = record {
      by = λ bs l n s h t i j. absurd (f s t.0 h t.1 t.2);
      dead = λ s v h i t. (refl, refl, refl);
    }

    pub assume_exact : (e : CsExprTree) (before : M) (after : Option M) (kept : List (Kept M)) (out : List Alarm)
        → ((s : State) (v : Value) → sharp before s → value_of e s ≡ Some v → truth v ≡ true → InSome sharp after s)
        → ((s : State) (v : Value) → sharp before s → value_of e s ≡ Some v → truth v ≢ true → after ≡ None)
        → Exact sharp over q to (Assume e) (Some before) after kept out kept out
    assume_exact e before after kept out f g = record {
      by = λ bs l n s h i j. exactly_choice (value_of e s) after kept out (Normal s) Stopped
          (λ w k t. (f s w h k t, i, j)) (λ w k t. (g s w h k (not_true (truth w) t), i, j));
    }

    exactly_told : (after : Option M) (kept : List (Kept M)) (out : List Alarm) (j : Judged) (at : Pos) (s : State) → kept ≡ []
        → (j ≡ Passes → InSome sharp after s × (out ≡ []))
        → ((k : WrongKind) (x : Operand) → j ≡ FailsAs k x → (after ≡ None) × ListedAlone q out [] at k x s.memory)
        → Exactly sharp q to after kept out (told j at s)
    exactly_told after kept out Passes at s i f g = let y = f refl in (y.0, i, y.1)
    exactly_told after kept out (FailsAs k x) at s i f g = let y = g k x refl in (y.0, i, y.1)
    exactly_told after kept out NoOperand at s i f g = tt

    pub check_exact : (c : CsCheckTree) (before : M) (after : Option M) (kept : List (Kept M)) (out later : List Alarm)
        → ((s : State) → sharp before s → judge q.objects (look_of c s ∷ []) ≡ Passes → InSome sharp after s)
        → ((s : State) (k : WrongKind) (x : Operand) → sharp before s → judge q.objects (look_of c s ∷ []) ≡ FailsAs k x → after ≡ None)
        → ((s : State) → sharp before s → judge q.objects (look_of c s ∷ []) ≡ Passes → later ≡ out)
        → ((s : State) (k : WrongKind) (x : Operand) → sharp before s → judge q.objects (look_of c s ∷ []) ≡ FailsAs k x → out ≡ []
        → ListedAlone q later [] c.pos k x s.memory)
        → Exact sharp over q to (Checked c) (Some before) after kept out kept later
    check_exact c before after kept out later pass dead none one = record {
      by = λ bs l n s h i j. exactly_told after kept later (judge q.objects (look_of c s ∷ [])) c.pos s i
          (λ e. (pass s h e, none s h e ∙ j)) (λ k x e. (dead s k x h e, one s k x h e j));
    }

    -- ---- sequences and blocks

    pub sequence_exact : (a b : CsStmtTree) (before mid after : Option M) (k k1 k2 : List (Kept M)) (o o1 o2 : List Alarm)
        → Exact sharp over q to a before mid k o k1 o1 → Exact sharp over q to b mid after k1 o1 k2 o2 → StaysDead mid after k1 o1 k2 o2
        → Exact sharp over q to (Sequence a b) before after k o k2 o2
    sequence_exact a b before mid after k k1 k2 o o1 o2 x y d = record {
      by = λ bs l n s h i j. exactly_then mid after k1 k2 o1 o2 (λ t. bounded_exec over q n b t) (bounded_exec over q n a s)
          (λ t u e f. y.by bs (leads_second a b l) n t u e f) d.by (x.by bs (leads_first a b l) n s h i j);
    }

    exactly_block : (mid after : Option M) (inner kept more : List (Kept M)) (out : List Alarm) (o : Outcome) → (inner ≡ [] → (after ≡ mid) × (more ≡ kept))
        → ((x : Kept M) → inner ≡ x ∷ [] → mid ≡ None → kept ≡ [] → OutOf x.way x.state more after) → kept ≡ []
        → Exactly sharp q to mid inner out o → Exactly sharp q to after more out (at_block o)
    exactly_block mid after inner kept more out (Normal s) f g e h = let d = f h.1 in (subst (λ m. InSome sharp m s) (sym d.0) h.0, d.1 ∙ e, h.2)
    exactly_block mid after inner kept more out (Leaves (ByExit zero) s) f g e h =
        let y = h.1 in
        let d = subst (λ w. OutOf w y.0.state more after) y.2 (g y.0 y.1 h.0 e) in
        (subst (λ m. InSome sharp m s) (sym d.1) y.3, d.0, h.2)
    exactly_block mid after inner kept more out (Leaves (ByExit (suc j)) s) f g e h =
        let y = h.1 in
        let d = subst (λ w. OutOf w y.0.state more after) y.2 (g y.0 y.1 h.0 e) in
        (d.1, (record { way = ways.Exit j; state = y.0.state }, d.0, refl, y.3), h.2)
    exactly_block mid after inner kept more out (Leaves (ByGoto l) s) f g e h =
        let y = h.1 in
        let d = subst (λ w. OutOf w y.0.state more after) y.2 (g y.0 y.1 h.0 e) in
        (d.1, (record { way = ways.Goto l; state = y.0.state }, d.0, refl, y.3), h.2)
    exactly_block mid after inner kept more out (Leaves (ByReturn v) s) f g e h =
        let y = h.1 in
        let d = subst (λ w. OutOf w y.0.state more after) y.2 (g y.0 y.1 h.0 e) in
        (d.1, (record { way = ways.Return; state = y.0.state }, d.0, refl, y.3), h.2)
    exactly_block mid after inner kept more out (Fails c at k x m) f g e h = let d = f h.1 in (d.0 ∙ h.0, d.1 ∙ e, h.2)
    exactly_block mid after inner kept more out Stopped f g e h = let d = f h.1 in (d.0 ∙ h.0, d.1 ∙ e, h.2)
    exactly_block mid after inner kept more out Waiting f g e h = tt
    exactly_block mid after inner kept more out Stuck f g e h = tt
    exactly_block mid after inner kept more out Clash f g e h = tt
    exactly_block mid after inner kept more out NoFuel f g e h = tt
    exactly_block mid after inner kept more out Over f g e h = tt

    pub block_exact : (a : CsStmtTree) (before mid after : Option M) (inner0 inner kept more : List (Kept M)) (o o1 : List Alarm) → inner0 ≡ []
        → Exact sharp over q to a before mid inner0 o inner o1 → (inner ≡ [] → (after ≡ mid) × (more ≡ kept))
        → ((x : Kept M) → inner ≡ x ∷ [] → mid ≡ None → kept ≡ [] → OutOf x.way x.state more after)
        → Exact sharp over q to (Block a) before after kept o more o1
    block_exact a before mid after inner0 inner kept more o o1 i x f g = record {
      by = λ bs l n s h e j. exactly_block mid after inner kept more o1 (bounded_exec over q n a s) f g e (x.by bs (leads_block a l) n s h i j);
    }

    -- ---- ways out

    pub leaves_exact : (a : CsStmtTree) (way : _) (before : M) (kept more : List (Kept M)) (out : List Alarm)
        → ((n : ℕ) (s : State) → bounded_exec over q n a s ≡ Leaves way s)
        → ((s : State) → sharp before s → kept ≡ [] → KeptWayAlone sharp to more way s)
        → Exact sharp over q to a (Some before) None kept out more out
    leaves_exact a way before kept more out e f = record {
      by = λ bs l n s h i j. subst (Exactly sharp q to None more out) (sym (e n s)) (refl, f s h i, j);
    }

    -- no set, and a statement that is never reached
    pub dead_exact : (a : CsStmtTree) (after : Option M) (kept more : List (Kept M)) (out later : List Alarm) → Exact sharp over q to a None after kept out more later
    dead_exact a after kept more out later = record { by = λ bs l n s h i j. absurd h }

pub stays_none : {M : Type 0} (kept : List (Kept M)) (out : List Alarm) → StaysDead {M = M} None None kept out kept out
stays_none kept out = record { by = λ e. (refl, refl, refl) }

pub stays_some : {M : Type 0} (state : M) (after : Option M) (kept more : List (Kept M)) (out later : List Alarm) → StaysDead (Some state) after kept out more later
stays_some state after kept more out later = record { by = λ e. cc }
