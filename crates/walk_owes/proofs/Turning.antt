-- Exact walks of loops: turns one by one, and a pass that stands for the last turn.
use Rattle.std.proofs.Common.{◌≡◌, ℕ, zero, suc, List, [], ◌∷◌, Option, Some, None, refl, sym, ◌∙◌, subst, ⊎_elim, inl, inr, ◌⊎◌, Bool, true, false, if◌then◌else◌}
use Rattle.c_syntax_written.specs.declared.place.Pos.{Pos}
use Rattle.c_syntax.specs.declared.alarm.Alarm.{Alarm}
use Rattle.csharp.specs.Trees.{CsStmtTree, Loop, CsProgramTree}
use Rattle.csharp.specs.States.{State}
use Rattle.csharp.specs.Outcomes.{ByExit, ByGoto, ByReturn, Outcome, Normal, Leaves, Fails, Waiting, Stopped, Stuck, Clash, NoFuel, Over, then_do}
use Rattle.csharp.specs.Meaning.{Turn, later_by, bounded_exec}
use Rattle.alarm_claims.specs.ExactFor.{ListedAlone}
use Rattle.walk_owes.specs.declared.way.Target.{Target}
use Rattle.walk_owes.specs.declared.way.Kept.{Kept}
use Rattle.walk_owes.specs.Loops.{from_turn}
use Rattle.walk_owes.specs.Exactly.{Exact, ExactLoop, Exactly, IsEnd, IsSilent, KeptAlone, KeptWayAlone, LastPass, LeadsOn, Rests, Rolled}
use Rattle.walk_owes.proofs.Exactly.{end_dead, exactly_silent}

pub leads_loop : (at : Pos) (a : CsStmtTree) → LeadsOn (Loop at a) → LeadsOn a
leads_loop at a h = record { around = h.around; each = h.each.1 }

module _ {M : Type 0} (sharp : M → State → Type 0) (over : ℕ → Bool) (q : CsProgramTree) (to : Target) (at : Pos) (a : CsStmtTree) where
  -- ---- turns one by one

  pub rolled_none : (entry : M) (kept : List (Kept M)) (out : List Alarm) → Rolled sharp over q at a entry 0 entry kept out kept out
  rolled_none entry kept out = record { by = λ b l n s h e f. inr (n, s, h, e, f, refl) }

  come_back : (turns n : ℕ) (next : M) (s : State) → sharp next s
      → IsSilent ((later_by over q n).statement (Turn (suc turns)) (Loop at a) s)
      ⊎ ((m : ℕ) × (t : State) × sharp next t × ((later_by over q n).statement (Turn (suc turns)) (Loop at a) s ≡ from_turn over q m (suc turns) at a t))
  come_back turns zero next s h = inl tt
  come_back turns (suc m) next s h = inr (m, s, h, refl)

  turn_case : (b : Bool) (turns n : ℕ) (o : Outcome) (next : M) (kept : List (Kept M)) (out : List Alarm) → Exactly sharp q to (Some next) kept out o
      → IsSilent (if b then Over else then_do o (λ u. (later_by over q n).statement (Turn (suc turns)) (Loop at a) u))
      ⊎ ((m : ℕ) × (t : State) × sharp next t × (kept ≡ []) × (out ≡ [])
      × ((if b then Over else then_do o (λ u. (later_by over q n).statement (Turn (suc turns)) (Loop at a) u)) ≡ from_turn over q m (suc turns) at a t))
  turn_case true turns n o next kept out h = inl tt
  turn_case false turns n (Normal s) next kept out h =
      ⊎_elim (λ c. inl c) (λ w. inr (w.0, w.1, w.2, h.1, h.2, w.3)) (come_back turns n next s h.0)
  turn_case false turns n (Leaves w s) next kept out h = let d = h.0 in cc
  turn_case false turns n (Fails c p k x m) next kept out h = let d = h.0 in cc
  turn_case false turns n Stopped next kept out h = let d = h.0 in cc
  turn_case false turns n Waiting next kept out h = inl tt
  turn_case false turns n Stuck next kept out h = inl tt
  turn_case false turns n Clash next kept out h = inl tt
  turn_case false turns n NoFuel next kept out h = inl tt
  turn_case false turns n Over next kept out h = inl tt

  pub rolled_more : (entry : M) (turns : ℕ) (head next : M) (k k1 k2 : List (Kept M)) (o o1 o2 : List Alarm) → Rolled sharp over q at a entry turns head k o k1 o1
      → Exact sharp over q to a (Some head) (Some next) k1 o1 k2 o2 → Rolled sharp over q at a entry (suc turns) next k o k2 o2
  rolled_more entry turns head next k k1 k2 o o1 o2 r x = record {
    by = λ b l n s h e f. ⊎_elim (λ c. inl c)
        (λ w. ⊎_elim (λ c. inl (subst (λ y. IsSilent y) (sym w.5) c)) (λ z. inr (z.0, z.1, z.2, z.3, z.4, w.5 ∙ z.5))
        (turn_case (over turns) turns w.0 (bounded_exec over q w.0 a w.1) next k2 o2 (x.by b l w.0 w.1 w.2 w.3 w.4)))
        (r.by b l n s h e f);
  }

  dead_turn : (b : Bool) (o : Outcome) (go : State → Outcome) (kept : List (Kept M)) (out : List Alarm) → Exactly sharp q to None kept out o
      → Exactly sharp q to None kept out (if b then Over else then_do o go)
  dead_turn true o go kept out h = tt
  dead_turn false (Normal s) go kept out h = absurd h.0
  dead_turn false (Leaves w s) go kept out h = h
  dead_turn false (Fails c p k x m) go kept out h = h
  dead_turn false Stopped go kept out h = h
  dead_turn false Waiting go kept out h = tt
  dead_turn false Stuck go kept out h = tt
  dead_turn false Clash go kept out h = tt
  dead_turn false NoFuel go kept out h = tt
  dead_turn false Over go kept out h = tt

  pub rolled_dead : (entry : M) (turns : ℕ) (head : M) (k k1 k2 : List (Kept M)) (o o1 o2 : List Alarm) → Rolled sharp over q at a entry turns head k o k1 o1
      → Exact sharp over q to a (Some head) None k1 o1 k2 o2 → ExactLoop sharp over q to at a 0 entry k o k2 o2
  rolled_dead entry turns head k k1 k2 o o1 o2 r x = record {
    by = λ b l n s h e f. ⊎_elim (λ c. exactly_silent sharp q to None k2 o2 (from_turn over q n 0 at a s) c)
        (λ w. subst (λ y. Exactly sharp q to None k2 o2 y) (sym w.5)
        (dead_turn (over turns) (bounded_exec over q w.0 a w.1) (λ u. (later_by over q w.0).statement (Turn (suc turns)) (Loop at a) u) k2 o2
        (x.by b l w.0 w.1 w.2 w.3 w.4)))
        (r.by b l n s h e f);
  }

  pub rolled_end : (entry : M) (turns : ℕ) (head : M) (k k1 k2 : List (Kept M)) (o o1 o2 : List Alarm) → Rolled sharp over q at a entry turns head k o k1 o1
      → ExactLoop sharp over q to at a turns head k1 o1 k2 o2 → ExactLoop sharp over q to at a 0 entry k o k2 o2
  rolled_end entry turns head k k1 k2 o o1 o2 r x = record {
    by = λ b l n s h e f. ⊎_elim (λ c. exactly_silent sharp q to None k2 o2 (from_turn over q n 0 at a s) c)
        (λ w. subst (λ y. Exactly sharp q to None k2 o2 y) (sym w.5) (x.by b l w.0 w.1 w.2 w.3 w.4))
        (r.by b l n s h e f);
  }

  pub whole_exact : (entry : M) (k k1 : List (Kept M)) (o o1 : List Alarm) → ExactLoop sharp over q to at a 0 entry k o k1 o1
      → Exact sharp over q to (Loop at a) (Some entry) None k o k1 o1
  whole_exact entry k k1 o o1 x = record { by = λ b l n s h e f. x.by b (leads_loop at a l) n s h e f }

  -- ---- passes with lists of their own

  pub rests_start : (entry : M) → Rests sharp over q a entry entry
  rests_start entry = record { by = λ b l n s h i. refl }

  pub pass_last : (entry head : M) (next : Option M) (k k1 : List (Kept M)) (o o1 : List Alarm) → Rests sharp over q a entry head → k ≡ [] → o ≡ []
      → Exact sharp over q to a (Some head) next k o k1 o1 → LastPass sharp over q to a entry next k1 o1
  pass_last entry head next k k1 o o1 r e f x = record {
    by = λ b l n s h i. x.by b l n s (subst (λ m. sharp m s) (sym (r.by b l n s h i)) h) e f;
  }

  -- a turn that comes back is none of these
  pub rests_on : (entry head next : M) (kept : List (Kept M)) (out : List Alarm) → LastPass sharp over q to a entry (Some next) kept out
      → Rests sharp over q a entry head
  rests_on entry head next kept out x = record {
    by = λ b l n s h i. let e = end_dead sharp q to (Some next) kept out (bounded_exec over q n a s) i (x.by b l n s h i) in cc;
  }

  -- where a step of narrowing begins
  pub rests_candidate : (entry head : M) (next : Option M) (kept : List (Kept M)) (out : List Alarm) → LastPass sharp over q to a entry next kept out
      → (next ≡ None → head ≡ entry) → Rests sharp over q a entry head
  rests_candidate entry head next kept out x f = record {
    by = λ b l n s h i. f (end_dead sharp q to next kept out (bounded_exec over q n a s) i (x.by b l n s h i));
  }

  -- ---- the turn behind those that were walked one by one does not come back, or one more is too much

  over_silent : (turns : ℕ) → over (suc turns) ≡ true → (n : ℕ) (s : State) → IsSilent ((later_by over q n).statement (Turn (suc turns)) (Loop at a) s)
  over_silent turns e zero s = tt
  over_silent turns e (suc m) s = rw e tt

  -- the lists of the last pass, added to lists with nothing
  module _ (next : Option M) (k1 kept more : List (Kept M)) (o1 out later : List Alarm)
      (none : k1 ≡ [] → more ≡ kept) (one : (x : Kept M) → k1 ≡ x ∷ [] → kept ≡ [] → more ≡ x ∷ []) (listed : out ≡ [] → later ≡ o1)
      (e : kept ≡ []) (f : out ≡ []) where
    kept_one : (w : _) (s : State) → KeptAlone sharp k1 w s → KeptAlone sharp more w s
    kept_one w s h = (h.0, one h.0 h.1 e, h.2, h.3)

    added : (w : _) (s : State) → KeptWayAlone sharp to k1 w s → KeptWayAlone sharp to more w s
    added (ByExit k) s h = kept_one _ s h
    added (ByGoto l) s h = kept_one _ s h
    added (ByReturn v) s h = kept_one _ _ h

    rest_case : (b : Bool) (o : Outcome) (go : State → Outcome) → ((s : State) → IsSilent (go s)) → (IsEnd o → Exactly sharp q to next k1 o1 o)
        → Exactly sharp q to None more later (if b then Over else then_do o go)
    rest_case true o go s g = tt
    rest_case false (Normal t) go s g = exactly_silent sharp q to None more later (go t) (s t)
    rest_case false (Leaves w t) go s g = let h = g tt in (refl, added w t h.1, listed f ∙ h.2)
    rest_case false (Fails c p k x m) go s g = let h = g tt in (refl, none h.1 ∙ e, subst (λ l. ListedAlone q l c p k x m) (sym (listed f)) h.2)
    rest_case false Stopped go s g = let h = g tt in (refl, none h.1 ∙ e, listed f ∙ h.2)
    rest_case false Waiting go s g = tt
    rest_case false Stuck go s g = tt
    rest_case false Clash go s g = tt
    rest_case false NoFuel go s g = tt
    rest_case false Over go s g = tt

  pub rest_exact : (turns : ℕ) (entry : M) (next : Option M) (k1 kept more : List (Kept M)) (o1 out later : List Alarm) → over (suc turns) ≡ true
      → LastPass sharp over q to a entry next k1 o1 → (k1 ≡ [] → more ≡ kept) → ((x : Kept M) → k1 ≡ x ∷ [] → kept ≡ [] → more ≡ x ∷ [])
      → (out ≡ [] → later ≡ o1) → ExactLoop sharp over q to at a turns entry kept out more later
  rest_exact turns entry next k1 kept more o1 out later b x none one listed = record {
    by = λ bs l n s h e f. rest_case next k1 kept more o1 out later none one listed e f (over turns) (bounded_exec over q n a s)
        (λ u. (later_by over q n).statement (Turn (suc turns)) (Loop at a) u) (over_silent turns b n) (λ i. x.by bs l n s h i);
  }
