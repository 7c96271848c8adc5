-- Exact passes over items: where the run is before the items that are left.
use Rattle.std.proofs.Common.{◌≡◌, ◌⊎◌, ⊎_elim, inl, inr, ℕ, zero, suc, List, [], ◌∷◌, Option, Some, None, Bool, true, false, if◌then◌else◌, refl, sym, ap, subst, ◌∙◌}
use Rattle.std.specs.Prelude.{◌≢◌, Contains}
use Rattle.std.proofs.lemmas.Bool.{ne_eqb}
use Rattle.std.proofs.lemmas.List.Elements.{Contains-append_left, Contains-append_right}
use Rattle.c_syntax.specs.declared.alarm.Alarm.{Alarm}
use Rattle.csharp.specs.Trees.{CsStmtTree, CsStmtTrees, none, more, CsProgramTree}
use Rattle.csharp.specs.States.{State}
use Rattle.csharp.specs.Formed.{gathered, gathered_in}
use Rattle.csharp.specs.Outcomes.{ByExit, ByGoto, ByReturn, Outcome, Normal, Leaves, Fails, Waiting, Stopped, Stuck, Clash, NoFuel, Over, then_do}
use Rattle.csharp.specs.Meaning as meaning
use Rattle.csharp.specs.Meaning.{AtLabel, bounded_exec, caught, has, is_mark, items, later_by}
use Rattle.csharp_laws.specs.Enough.{IsNotNamedBehind, gotos_of}
use Rattle.alarm_claims.specs.ExactFor.{ListedAlone}
use Rattle.walk_owes.specs.declared.marks.Mark.{Mark}
use Rattle.walk_owes.specs.declared.marks.Head.{Head}
use Rattle.walk_owes.specs.declared.way.Way.{Way}
use Rattle.walk_owes.specs.declared.way.Way.TheVariants as ways
use Rattle.walk_owes.specs.declared.way.Target.{Target}
use Rattle.walk_owes.specs.declared.way.Kept.{Kept}
use Rattle.walk_owes.specs.Owes.{InSome, returned}
use Rattle.walk_owes.specs.Items.{mark_of}
use Rattle.walk_owes.specs.Exactly.{AllLeadOn, AreBareAhead, Behind, BeginsAlone, BodiesLeadOn, EntersInto, Exact, ExactAll, Exactly, Goes, GoesInto, GoesOn}
use Rattle.walk_owes.specs.Exactly.{HeadAlone, IsBare, IsOut, IsOver, JumpsInto, KeptAlone, LeadsOn, StaysDead}
use Rattle.walk_owes.proofs.Entering.{has_first, has_second, has_skip}
use Rattle.walk_owes.proofs.Jumping.{jump_named}
use Rattle.walk_owes.proofs.Marked.{seen}
use Rattle.walk_owes.proofs.Scopes.{mark_passes}

both_ways : {b : Bool} → b ≡ false → b ≡ true → ⊥
both_ways e f = absurd (cc)

which : (b : Bool) → (b ≡ true) ⊎ (b ≡ false)
which true = inl refl
which false = inr refl

has_none : (m : meaning.Mark) → has m none ≡ true → ⊥
has_none m e = both_ways refl e

same_goto : (l k : ℕ) → ways.Goto l ≡ ways.Goto k → l ≡ k
same_goto l k e = cc

exit_goto : (k l : ℕ) → ways.Exit k ≡ ways.Goto l → ⊥
exit_goto k l e = absurd (cc)

return_goto : (l : ℕ) → ways.Return ≡ ways.Goto l → ⊥
return_goto l e = absurd (cc)

-- ---- the rest of items

not_named : (l : ℕ) (item : CsStmtTree) (rest : CsStmtTrees) → IsNotNamedBehind item rest → Contains (gathered_in gotos_of rest) l → is_mark (AtLabel l) item ≡ false
not_named l item rest out c =
    ⊎_elim
    (λ x. let apart = subst (λ i. IsNotNamedBehind i rest) x.2 out in
    rw x.2 (ne_eqb l x.1 (λ e. apart (subst (λ z. Contains (gathered_in gotos_of rest) z) e c))))
    (λ y. ⊎_elim (λ x. rw x.1 refl) (λ p. p.no_label l) y) (seen item)

skips : (over : ℕ → Bool) (q : CsProgramTree) (m : meaning.Mark) (item : CsStmtTree) (rest : CsStmtTrees) (n : ℕ) (s : State) → is_mark m item ≡ false
    → items over q (later_by over q n) (Some m) (more item rest) s ≡ items over q (later_by over q n) (Some m) rest s
skips over q m item rest n s e = ap (λ b. items over q (later_by over q n) (if b then None else Some m) rest s) e

enters_at : (over : ℕ → Bool) (q : CsProgramTree) (m : meaning.Mark) (item : CsStmtTree) (rest : CsStmtTrees) (n : ℕ) (s : State) → is_mark m item ≡ true
    → items over q (later_by over q n) (Some m) (more item rest) s ≡ items over q (later_by over q n) None rest s
enters_at over q m item rest n s e = ap (λ b. items over q (later_by over q n) (if b then None else Some m) rest s) e

pub behind_start : (over : ℕ → Bool) (q : CsProgramTree) (all : CsStmtTrees) → Behind over q all all
behind_start over q all = record {
  among = λ m h. h;
  parts = λ r h. h;
  forward = λ h. h;
  there = λ f l c. refl;
  same = λ f l c n s. refl;
}

pub behind_more : (over : ℕ → Bool) (q : CsProgramTree) (all : CsStmtTrees) (item : CsStmtTree) (rest : CsStmtTrees) → Behind over q all (more item rest)
    → Behind over q all rest
behind_more over q all item rest b = record {
  among = λ m h. b.among m (has_second m item rest h);
  parts = λ r h. (b.parts r h).1;
  forward = λ h. (b.forward h).1;
  there = λ f l c. b.there f l (Contains-append_right (gathered gotos_of item) (gathered_in gotos_of rest) l c)
      ∙ has_skip (AtLabel l) item rest (not_named l item rest (b.forward f).0 c);
  same = λ f l c n s. b.same f l (Contains-append_right (gathered gotos_of item) (gathered_in gotos_of rest) l c) n s
      ∙ skips over q (AtLabel l) item rest n s (not_named l item rest (b.forward f).0 c);
}

module _ {M : Type 0} (sharp : M → State → Type 0) (over : ℕ → Bool) (q : CsProgramTree) (to : Target) (all : CsStmtTrees) (heads : List (Head M)) where
  begin_by : (start : Option M) (kept : List (Kept M)) (out : List Alarm) → kept ≡ [] → out ≡ []
      → (n : ℕ) (from : Option meaning.Mark) (s : State) → BeginsAlone sharp all heads start from s
      → Goes sharp over q to all all heads start kept out (caught (later_by over q n) all (items over q (later_by over q n) from all s))
  begin_by start kept out i j n None s h = inl (λ mark e. h.1 mark, inr (inl (n, s, h.0, i, j, refl)))
  begin_by start kept out i j n (Some m) s h = inr (
    n,
    h.0,
    s,
    h.2,
    subst (λ z. has z all ≡ true) h.1 h.3,
    h.4,
    i,
    j,
    h.5,
    h.6,
    ap (λ z. caught (later_by over q n) all (items over q (later_by over q n) (Some z) all s)) h.1,
  )

  pub goes_begin : (start : Option M) (kept : List (Kept M)) (out : List Alarm) → kept ≡ [] → out ≡ []
      → GoesOn sharp over q to all all heads start start kept out
  goes_begin start kept out i j = record { by = λ b l n from s h. begin_by start kept out i j n from s h; dead = λ e b. (e, i, j) }

  -- ---- what an item does in a pass

  module _ (item : CsStmtTree) (rest : CsStmtTrees) (behind : Behind over q all (more item rest)) (l : AllLeadOn all) (bare : AreBareAhead heads rest)
      (after : Option M) (more2 : List (Kept M)) (later : List Alarm) where
    jump_in : (m k : ℕ) (s t : State) → bounded_exec over q m item s ≡ Leaves (ByGoto k) t → is_mark (AtLabel k) item ≡ false
    jump_in m k s t e = ⊎_elim
        (λ b. let z : Leaves (ByGoto k) t ≡ Normal s = sym e ∙ mark_passes over q (later_by over q m) (AtLabel k) item s b in absurd (cc))
        (λ b. b) (which (is_mark (AtLabel k) item))

    jump_on : (m k : ℕ) (s t : State) → bounded_exec over q m item s ≡ Leaves (ByGoto k) t → has (AtLabel k) all ≡ true
        → Exactly sharp q to after more2 later (Leaves (ByGoto k) t)
        → Goes sharp over q to all rest heads after more2 later ((later_by over q m).items (AtLabel k) all t)
    jump_on zero k s t e there h = inl (bare, inl (tt, tt, tt))
    jump_on (suc n) k s t e there h =
        let named = Contains-append_left (gathered gotos_of item) (gathered_in gotos_of rest) k (jump_named over q (suc n) item s t k e) in
        let other = jump_in (suc n) k s t e in
        inl (
          bare,
          inr (inr (
            n,
            k,
            t,
            h.0,
            sym (has_skip (AtLabel k) item rest other) ∙ sym (behind.there l.forward k named) ∙ there,
            h.1,
            h.2,
            ap (caught (later_by over q n) all) (behind.same l.forward k named n t ∙ skips over q (AtLabel k) item rest n t other),
          )),
        )

    jump_case : (m k : ℕ) (s t : State) (b : Bool) → bounded_exec over q m item s ≡ Leaves (ByGoto k) t → has (AtLabel k) all ≡ b
        → Exactly sharp q to after more2 later (Leaves (ByGoto k) t)
        → Goes sharp over q to all rest heads after more2 later (if b then (later_by over q m).items (AtLabel k) all t else Leaves (ByGoto k) t)
    jump_case m k s t true e there h = jump_on m k s t e there h
    jump_case m k s t false e there h = inl (bare, inl (there, h, tt))

    pub item_case : (m : ℕ) (s : State) (c : Outcome) → bounded_exec over q m item s ≡ c → Exactly sharp q to after more2 later c
        → Goes sharp over q to all rest heads after more2 later (caught (later_by over q m) all (then_do c (λ t. items over q (later_by over q m) None rest t)))
    item_case m s (Normal t) e h = inl (bare, inr (inl (m, t, h.0, h.1, h.2, refl)))
    item_case m s (Leaves (ByExit k) t) e h = inl (bare, inl (tt, h, tt))
    item_case m s (Leaves (ByReturn v) t) e h = inl (bare, inl (tt, h, tt))
    item_case m s (Leaves (ByGoto k) t) e h = jump_case m k s t (has (AtLabel k) all) e refl h
    item_case m s (Fails c p k x y) e h = inl (bare, inl (tt, h, tt))
    item_case m s Stopped e h = inl (bare, inl (tt, h, tt))
    item_case m s Waiting e h = inl (bare, inl (tt, tt, tt))
    item_case m s Stuck e h = inl (bare, inl (tt, tt, tt))
    item_case m s Clash e h = inl (bare, inl (tt, tt, tt))
    item_case m s NoFuel e h = inl (bare, inl (tt, tt, tt))
    item_case m s Over e h = inl (bare, inl (tt, tt, tt))

  -- ---- items one by one

  module _ (item : CsStmtTree) (rest : CsStmtTrees) (behind : Behind over q all (more item rest)) (flow begun after : Option M) (kept kept1 kept2 : List (Kept M))
      (out out2 : List Alarm)
      (flows : ((mark : Mark) → is_mark (mark_of mark) item ≡ true → IsBare heads mark) → kept ≡ [] → (begun ≡ flow) × (kept1 ≡ []))
      (enters : (mark : Mark) (s : State) → is_mark (mark_of mark) item ≡ true → HeadAlone sharp heads mark s → flow ≡ None → kept ≡ []
      → InSome sharp begun s × (kept1 ≡ []))
      (jumps : ((mark : Mark) → is_mark (mark_of mark) item ≡ true → IsBare heads mark) → (k : ℕ) (x : Kept M) → kept ≡ x ∷ [] → x.way ≡ ways.Goto k
      → is_mark (AtLabel k) item ≡ true → flow ≡ None → (begun ≡ Some x.state) × (kept1 ≡ []))
      (passes : ((mark : Mark) → is_mark (mark_of mark) item ≡ true → IsBare heads mark) → (x : Kept M) → kept ≡ x ∷ []
      → ((k : ℕ) → is_mark (AtLabel k) item ≡ true → x.way ≢ ways.Goto k) → (begun ≡ flow) × (kept1 ≡ x ∷ []))
      (walked : Exact sharp over q to item begun after kept1 out kept2 out2) (stays : StaysDead begun after kept1 out kept2 out2) where
    bare_here : AreBareAhead heads (more item rest) → (mark : Mark) → is_mark (mark_of mark) item ≡ true → IsBare heads mark
    bare_here ahead mark e = ahead mark (has_first (mark_of mark) item rest e)

    bare_rest : AreBareAhead heads (more item rest) → AreBareAhead heads rest
    bare_rest ahead mark e = ahead mark (has_second (mark_of mark) item rest e)

    -- an outcome that has ended stays as it is
    still_kept : (ahead : AreBareAhead heads (more item rest)) (w : Way) (s : State) → ((k : ℕ) → is_mark (AtLabel k) item ≡ true → w ≢ ways.Goto k)
        → flow ≡ None → KeptAlone sharp kept w s → (after ≡ None) × KeptAlone sharp kept2 w s × (out2 ≡ out)
    still_kept ahead w s f e h =
        let p = passes (bare_here ahead) h.0 h.1 (λ k m i. f k m (sym h.2 ∙ i)) in
        let d = stays.by (p.0 ∙ e) in
        (d.0, (h.0, d.1 ∙ p.1, h.2, h.3), d.2)

    no_label_out : (k : ℕ) → has (AtLabel k) all ≡ false → (j : ℕ) → is_mark (AtLabel j) item ≡ true → ways.Goto k ≢ ways.Goto j
    no_label_out k e j m i =
        let same = same_goto k j i in
        both_ways e (behind.among (AtLabel k) (has_first (AtLabel k) item rest (subst (λ z. is_mark (AtLabel z) item ≡ true) (sym same) m)))

    still_empty : AreBareAhead heads (more item rest) → flow ≡ None → kept ≡ [] → (after ≡ None) × (kept2 ≡ []) × (out2 ≡ out)
    still_empty ahead e i = let p = flows (bare_here ahead) i in let d = stays.by (p.0 ∙ e) in (d.0, d.1 ∙ p.1, d.2)

    still_out : AreBareAhead heads (more item rest) → (o : Outcome) → IsOut all o → IsOver o → Exactly sharp q to flow kept out o
        → Exactly sharp q to after kept2 out2 o
    still_out ahead (Normal s) i j h = absurd j
    still_out ahead (Leaves (ByExit k) s) i j h = let y = still_kept ahead (ways.Exit k) s (λ l m e. exit_goto k l e) h.0 h.1 in (y.0, y.1, y.2 ∙ h.2)
    still_out ahead (Leaves (ByGoto k) s) i j h = let y = still_kept ahead (ways.Goto k) s (no_label_out k i) h.0 h.1 in (y.0, y.1, y.2 ∙ h.2)
    still_out ahead (Leaves (ByReturn v) s) i j h =
        let y = still_kept ahead ways.Return (returned to v s) (λ l m e. return_goto l e) h.0 h.1 in (y.0, y.1, y.2 ∙ h.2)
    still_out ahead (Fails c p k x m) i j h =
        let y = still_empty ahead h.0 h.1 in (y.0, y.1, subst (λ z. ListedAlone q z c p k x m) (sym y.2) h.2)
    still_out ahead Stopped i j h = let y = still_empty ahead h.0 h.1 in (y.0, y.1, y.2 ∙ h.2)
    still_out ahead Waiting i j h = tt
    still_out ahead Stuck i j h = tt
    still_out ahead Clash i j h = tt
    still_out ahead NoFuel i j h = tt
    still_out ahead Over i j h = tt

    module _ (b : BodiesLeadOn q) (l : AllLeadOn all) where
      own : LeadsOn item
      own = record { around = l.around; each = (behind.parts l.around l.each).0 }

      -- the mark of an item does nothing, and the rest goes on
      marked : (m : ℕ) (s : State) (mark : meaning.Mark) → is_mark mark item ≡ true → AreBareAhead heads rest → InSome sharp begun s → kept1 ≡ [] → out ≡ []
          → Goes sharp over q to all rest heads after kept2 out2 (caught (later_by over q m) all (items over q (later_by over q m) (Some mark) (more item rest) s))
      marked m s mark e ahead h i j =
          let y = subst (Exactly sharp q to after kept2 out2) (mark_passes over q (later_by over q m) mark item s e) (walked.by b own m s h i j) in
          inl (ahead, inr (inl (m, s, y.0, y.1, y.2, ap (caught (later_by over q m) all) (enters_at over q mark item rest m s e))))

      into : AreBareAhead heads (more item rest) → (o : Outcome) → GoesInto sharp over q all (more item rest) flow kept out o
          → Goes sharp over q to all rest heads after kept2 out2 o
      into ahead o h =
          let p = flows (bare_here ahead) h.3 in
          subst (Goes sharp over q to all rest heads after kept2 out2) (sym h.5)
          (item_case item rest behind l (bare_rest ahead) after kept2 out2 h.0 h.1 (bounded_exec over q h.0 item h.1) refl
          (walked.by b own h.0 h.1 (subst (λ z. InSome sharp z h.1) (sym p.0) h.2) p.1 h.4))

      jumped : AreBareAhead heads (more item rest) → (o : Outcome) → JumpsInto sharp over q all (more item rest) flow kept out o
          → Goes sharp over q to all rest heads after kept2 out2 o
      jumped ahead o h =
          let k = h.5 in
          subst (Goes sharp over q to all rest heads after kept2 out2) (sym h.7)
          (⊎_elim
          (λ e. let p = jumps (bare_here ahead) h.1 k.0 k.1 k.2 e h.3 in
          marked h.0 h.2 (AtLabel h.1) e (bare_rest ahead) (subst (λ z. InSome sharp z h.2) (sym p.0) k.3) p.1 h.6)
          (λ e. let y = still_kept ahead (ways.Goto h.1) h.2
          (λ j m i. both_ways e (subst (λ z. is_mark (AtLabel z) item ≡ true) (sym (same_goto h.1 j i)) m)) h.3 k in
          inl (
            bare_rest ahead,
            inr (inr (
              h.0,
              h.1,
              h.2,
              y.0,
              sym (has_skip (AtLabel h.1) item rest e) ∙ h.4,
              y.1,
              y.2 ∙ h.6,
              ap (caught (later_by over q h.0) all) (skips over q (AtLabel h.1) item rest h.0 h.2 e),
            )),
          ))
          (which (is_mark (AtLabel h.1) item)))

      entered : (o : Outcome) → EntersInto sharp over q all (more item rest) heads flow kept out o → Goes sharp over q to all rest heads after kept2 out2 o
      entered o h =
          subst (Goes sharp over q to all rest heads after kept2 out2) (sym h.10)
          (⊎_elim
          (λ e. let p = enters h.1 h.2 e h.5 h.3 h.6 in
          marked h.0 h.2 (mark_of h.1) e
          (λ mark i. ⊎_elim (λ x. x) (λ x. absurd (both_ways (h.9.0 (mark_of h.1) e) (subst (λ z. has (mark_of z) rest ≡ true) x i))) (h.8 mark))
          p.0 p.1 h.7)
          (λ e. let p = flows (λ mark i. ⊎_elim (λ x. x) (λ x. absurd (both_ways e (subst (λ z. is_mark (mark_of z) item ≡ true) x i))) (h.8 mark)) h.6 in
          let d = stays.by (p.0 ∙ h.3) in
          inr (
            h.0,
            h.1,
            h.2,
            d.0,
            sym (has_skip (mark_of h.1) item rest e) ∙ h.4,
            h.5,
            d.1 ∙ p.1,
            d.2 ∙ h.7,
            h.8,
            h.9.1,
            ap (caught (later_by over q h.0) all) (skips over q (mark_of h.1) item rest h.0 h.2 e),
          ))
          (which (is_mark (mark_of h.1) item)))

      goes_by : (o : Outcome) → Goes sharp over q to all (more item rest) heads flow kept out o → Goes sharp over q to all rest heads after kept2 out2 o
      goes_by o h = ⊎_elim
          (λ a. ⊎_elim (λ e. inl (bare_rest a.0, inl (e.0, still_out a.0 o e.0 e.2 e.1, e.2)))
          (λ r. ⊎_elim (λ i. into a.0 o i) (λ j. jumped a.0 o j) r) a.1)
          (λ e. entered o e) h

    pub goes_more : (start : Option M) → GoesOn sharp over q to all (more item rest) heads start flow kept out → GoesOn sharp over q to all rest heads start after kept2 out2
    goes_more start p = record {
      by = λ b l n from s h. goes_by b l (caught (later_by over q n) all (items over q (later_by over q n) from all s)) (p.by b l n from s h);
      dead = λ e bare.
          let d = p.dead e bare in
          let f = flows (λ mark i. bare mark) d.1 in
          let y = stays.by (f.0 ∙ d.0) in
          (y.0, y.1 ∙ f.1, y.2 ∙ d.2);
    }

  -- ---- behind the last item

  module _ (flow : Option M) (kept left : List (Kept M)) (out : List Alarm) (empty : kept ≡ [] → left ≡ [])
      (one : (x : Kept M) → kept ≡ x ∷ [] → ((k : ℕ) → has (AtLabel k) all ≡ true → x.way ≢ ways.Goto k) → left ≡ x ∷ []) where
    left_one : (w : Way) (s : State) → ((k : ℕ) → has (AtLabel k) all ≡ true → w ≢ ways.Goto k) → KeptAlone sharp kept w s → KeptAlone sharp left w s
    left_one w s f h = (h.0, one h.0 h.1 (λ k e i. f k e (sym h.2 ∙ i)), h.2, h.3)

    left_out : (o : Outcome) → IsOut all o → Exactly sharp q to flow kept out o → Exactly sharp q to flow left out o
    left_out (Normal s) i h = (h.0, empty h.1, h.2)
    left_out (Leaves (ByExit k) s) i h = (h.0, left_one (ways.Exit k) s (λ j m e. exit_goto k j e) h.1, h.2)
    left_out (Leaves (ByGoto k) s) i h =
        (h.0, left_one (ways.Goto k) s (λ j m e. both_ways i (subst (λ z. has (AtLabel z) all ≡ true) (sym (same_goto k j e)) m)) h.1, h.2)
    left_out (Leaves (ByReturn v) s) i h = (h.0, left_one ways.Return (returned to v s) (λ j m e. return_goto j e) h.1, h.2)
    left_out (Fails c p k x m) i h = (h.0, empty h.1, h.2)
    left_out Stopped i h = (h.0, empty h.1, h.2)
    left_out Waiting i h = tt
    left_out Stuck i h = tt
    left_out Clash i h = tt
    left_out NoFuel i h = tt
    left_out Over i h = tt

    ends_by : (o : Outcome) → Goes sharp over q to all none heads flow kept out o → Exactly sharp q to flow left out o
    ends_by o h = ⊎_elim
        (λ a. ⊎_elim (λ e. left_out o e.0 e.1)
        (λ r. ⊎_elim (λ i. subst (Exactly sharp q to flow left out) (sym i.5) (i.2, empty i.3, i.4)) (λ j. absurd (has_none (AtLabel j.1) j.4)) r) a.1)
        (λ e. absurd (has_none (mark_of e.1) e.4)) h

    pub goes_end : (start : Option M) → GoesOn sharp over q to all none heads start flow kept out → ExactAll sharp over q to all heads start flow left out
    goes_end start p = record {
      by = λ b l n from s h. ends_by (caught (later_by over q n) all (items over q (later_by over q n) from all s)) (p.by b l n from s h);
      dead = λ e bare. let d = p.dead e bare in (d.0, empty d.1, d.2);
    }
