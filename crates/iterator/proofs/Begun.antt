-- Passes over items from the one state before them: the first that is no silent run is closed.
use Rattle.std.proofs.Common.{◌≡◌, ⊎_elim, inl, inr, ℕ, List, [], ◌∷◌, Option, Some, None, Bool, true, false, refl, sym, subst, ◌∙◌}
use Rattle.std.specs.Prelude.{◌≢◌}
use Rattle.c_syntax.specs.declared.alarm.Alarm.{Alarm}
use Rattle.csharp.specs.Trees.{CsStmtTrees, none, CsProgramTree}
use Rattle.csharp.specs.States.{State}
use Rattle.csharp.specs.Outcomes.{ByExit, ByGoto, ByReturn, Outcome, Normal, Leaves, Fails, Waiting, Stopped, Stuck, Clash, NoFuel, Over}
use Rattle.csharp.specs.Meaning as meaning
use Rattle.csharp.specs.Meaning.{AtLabel, caught, has, items, later_by}
use Rattle.walk_owes.specs.declared.marks.Mark.{Mark}
use Rattle.walk_owes.specs.declared.marks.Head.{Head}
use Rattle.walk_owes.specs.declared.way.Way.{Way}
use Rattle.walk_owes.specs.declared.way.Way.TheVariants as ways
use Rattle.walk_owes.specs.declared.way.Target.{Target}
use Rattle.walk_owes.specs.declared.way.Kept.{Kept}
use Rattle.walk_owes.specs.Owes.{returned}
use Rattle.walk_owes.specs.Items.{mark_of}
use Rattle.walk_owes.specs.Heads.{HeadsAmong, IsHead}
use Rattle.walk_owes.specs.Exactly.{BeginsAlone, ExactAll, Exactly, Goes, GoesOn, HeadAlone, IsBare, IsOut, IsOver, IsSilent, KeptAlone}
use Rattle.walk_owes.proofs.Exactly.{exactly_silent}
use Rattle.walk_owes.proofs.Going.{goes_end}
use Rattle.iterator.specs.Begun.{BeginsOn}

both_ways : {b : Bool} → b ≡ false → b ≡ true → ⊥
both_ways e f = absurd (cc)

has_none : (m : meaning.Mark) → has m none ≡ true → ⊥
has_none m e = both_ways refl e

same_goto : (l k : ℕ) → ways.Goto l ≡ ways.Goto k → l ≡ k
same_goto l k e = cc

exit_goto : (k l : ℕ) → ways.Exit k ≡ ways.Goto l → ⊥
exit_goto k l e = absurd (cc)

return_goto : (l : ℕ) → ways.Return ≡ ways.Goto l → ⊥
return_goto l e = absurd (cc)

module _ {M : Type 0} (sharp : M → State → Type 0) (over : ℕ → Bool) (q : CsProgramTree) (to : Target) (all : CsStmtTrees) where
  labels_by : (heads later : List (Head M)) (flow : Option M) → ((mark : Mark) → IsBare heads mark → IsBare later mark)
      → ((mark : Mark) (s : State) → HeadAlone sharp heads mark s → HeadAlone sharp later mark s) → (from : Option meaning.Mark) (s : State)
      → BeginsAlone sharp all heads flow from s → BeginsAlone sharp all later flow from s
  labels_by heads later flow f g None s h = (h.0, λ mark. f mark (h.1 mark))
  labels_by heads later flow f g (Some m) s h =
      (h.0, h.1, h.2, h.3, g h.0 s h.4, λ other. ⊎_elim (λ b. inl (f other b)) (λ e. inr e) (h.5 other), h.6)

  -- more labels, each with no set
  pub begins_labels : (heads later : List (Head M)) (flow : Option M) → ((mark : Mark) → IsBare heads mark → IsBare later mark)
      → ((mark : Mark) (s : State) → HeadAlone sharp heads mark s → HeadAlone sharp later mark s) → BeginsOn sharp over q all heads flow later
  begins_labels heads later flow f g = record {
    by = λ b l n from s h. inr (labels_by heads later flow f g from s h);
    dead = λ e b mark. f mark (b mark);
  }

  pub begins_same : (heads : List (Head M)) (flow : Option M) → BeginsOn sharp over q all heads flow heads
  begins_same heads flow = record { by = λ b l n from s h. inr h; dead = λ e b mark. b mark }

  pub begins_both : (heads mid later : List (Head M)) (flow : Option M) → BeginsOn sharp over q all heads flow mid → BeginsOn sharp over q all mid flow later
      → BeginsOn sharp over q all heads flow later
  begins_both heads mid later flow x y = record {
    by = λ b l n from s h. ⊎_elim (λ c. inl c) (λ m. y.by b l n from s m) (x.by b l n from s h);
    dead = λ e b mark. y.dead e (x.dead e b) mark;
  }

  -- what items come to from the later heads they come to from the first
  pub all_from : (heads later : List (Head M)) (flow after : Option M) (kept : List (Kept M)) (out : List Alarm) → BeginsOn sharp over q all heads flow later
      → ExactAll sharp over q to all later flow after kept out → ExactAll sharp over q to all heads flow after kept out
  all_from heads later flow after kept out x y = record {
    by = λ b l n from s h. ⊎_elim
        (λ c. exactly_silent sharp q to after kept out (caught (later_by over q n) all (items over q (later_by over q n) from all s)) c)
        (λ m. y.by b l n from s m)
        (x.by b l n from s h);
    dead = λ e b. y.dead e (x.dead e b);
  }

  -- a pass behind which a label got a set or a wider one
  module _ (heads later : List (Head M)) (flow after : Option M) (kept : List (Kept M)) (out : List Alarm)
      (empty : kept ≡ [] → ⊥)
      (one : (x : Kept M) → kept ≡ x ∷ [] → ((k : ℕ) → has (AtLabel k) all ≡ true → x.way ≢ ways.Goto k) → ⊥) where
    no_one : (w : Way) (s : State) → ((k : ℕ) → has (AtLabel k) all ≡ true → w ≢ ways.Goto k) → KeptAlone sharp kept w s → ⊥
    no_one w s f h = one h.0 h.1 (λ k e i. f k e (sym h.2 ∙ i))

    silent_out : (o : Outcome) → IsOut all o → Exactly sharp q to after kept out o → IsOver o → IsSilent o
    silent_out (Normal s) i h e = absurd e
    silent_out (Leaves (ByExit k) s) i h e = absurd (no_one (ways.Exit k) s (λ j m d. exit_goto k j d) h.1)
    silent_out (Leaves (ByGoto k) s) i h e =
        absurd (no_one (ways.Goto k) s (λ j m d. both_ways i (subst (λ z. has (AtLabel z) all ≡ true) (sym (same_goto k j d)) m)) h.1)
    silent_out (Leaves (ByReturn v) s) i h e = absurd (no_one ways.Return (returned to v s) (λ j m d. return_goto j d) h.1)
    silent_out (Fails c k w x m) i h e = absurd (empty h.1)
    silent_out Stopped i h e = absurd (empty h.1)
    silent_out Waiting i h e = tt
    silent_out Stuck i h e = tt
    silent_out Clash i h e = tt
    silent_out NoFuel i h e = tt
    silent_out Over i h e = tt

    silent_by : (o : Outcome) → Goes sharp over q to all none heads after kept out o → IsSilent o
    silent_by o h = ⊎_elim
        (λ a. ⊎_elim (λ e. silent_out o e.0 e.1 e.2) (λ r. ⊎_elim (λ i. absurd (empty i.3)) (λ j. absurd (has_none (AtLabel j.1) j.4)) r) a.1)
        (λ e. absurd (has_none (mark_of e.1) e.4)) h

    pub begins_wider : GoesOn sharp over q to all none heads flow after kept out → BeginsOn sharp over q all heads flow later
    begins_wider p = record {
      by = λ b l n from s h. inl (silent_by (caught (later_by over q n) all (items over q (later_by over q n) from all s)) (p.by b l n from s h));
      dead = λ e b mark. let d = p.dead e b in absurd (empty d.1);
    }

  -- a pass that is closed
  pub all_closed : (heads : List (Head M)) (flow after : Option M) (kept left : List (Kept M)) (out : List Alarm) → HeadsAmong all heads
      → GoesOn sharp over q to all none heads flow after kept out → (kept ≡ [] → left ≡ [])
      → ((x : Kept M) → kept ≡ x ∷ [] → ((l : ℕ) → IsHead heads l → x.way ≢ ways.Goto l) → left ≡ x ∷ [])
      → ExactAll sharp over q to all heads flow after left out
  all_closed heads flow after kept left out among p empty one =
      goes_end sharp over q to all heads after kept left out empty (λ x e f. one x e (λ l i. f l (among l i))) flow p

  -- items with no label
  pub all_plain : (heads : List (Head M)) (flow after : Option M) (kept : List (Kept M)) (out : List Alarm)
      → GoesOn sharp over q to all none heads flow after kept out → ExactAll sharp over q to all heads flow after kept out
  all_plain heads flow after kept out p = goes_end sharp over q to all heads after kept kept out (λ e. e) (λ x e f. e) flow p
