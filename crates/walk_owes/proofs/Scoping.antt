-- Exact walks of scopes, switches and calls.
use Rattle.std.proofs.Common.{◌≡◌, ℕ, zero, suc, ℤ, List, [], ◌∷◌, Option, Some, None, refl, sym, ap, ◌∙◌, subst, ⊎_elim, ◌⊎◌, Bool, true, false, if◌then◌else◌}
use Rattle.std.specs.Prelude.{IfSome, slice_get}
use Rattle.c_syntax_written.specs.declared.int_type.IntType.{IntType}
use Rattle.c_syntax_written.specs.declared.place.Pos.{Pos}
use Rattle.c_syntax.specs.declared.alarm.Alarm.{Alarm}
use Rattle.c_syntax.specs.declared.alarm.WrongKind.{WrongKind}
use Rattle.c_syntax.specs.Operand.{Operand}
use Rattle.block_mem.specs.declared.types.Value.{Value}
use Rattle.block_mem.specs.declared.types.Value.TheVariants as values
use Rattle.block_mem.specs.declared.types.Pointer.{Pointer}
use Rattle.c_values.specs.Places.{ObjectMemory}
use Rattle.csharp.specs.Trees.{CsExprTree, CsCallTree, CsFunctionTree, Scope, Switch, Call, CsStmtTrees, none, CsProgramTree}
use Rattle.csharp.specs.States.{State, value_of}
use Rattle.csharp.specs.Actions.{are_free, enter, given_to, leave, pass}
use Rattle.csharp.specs.Outcomes.{ByExit, ByGoto, ByReturn, Outcome, Normal, Leaves, Fails, Waiting, Stopped, Stuck, Clash, NoFuel, Over, at_scope, at_call, or_stuck}
use Rattle.csharp.specs.Meaning.{Anew, AtCase, AtDefault, bounded_exec, caught, chosen, has, items, later_by, where_chosen, within}
use Rattle.csharp.specs.Formed.{in_items}
use Rattle.alarm_claims.specs.ExactFor.{ListedAlone}
use Rattle.walk_owes.specs.declared.marks.Mark.{Mark}
use Rattle.walk_owes.specs.declared.marks.Mark.TheVariants as marks
use Rattle.walk_owes.specs.declared.marks.Head.{Head}
use Rattle.walk_owes.specs.declared.way.Way.{Way}
use Rattle.walk_owes.specs.declared.way.Way.TheVariants as ways
use Rattle.walk_owes.specs.declared.way.Target.{Target}
use Rattle.walk_owes.specs.declared.way.Kept.{Kept}
use Rattle.walk_owes.specs.Owes.{InSome, IsMoved, returned}
use Rattle.walk_owes.specs.Items.{mark_of}
use Rattle.walk_owes.specs.Walkable.{target_of}
use Rattle.walk_owes.specs.Exactly.{AllLeadOn, AreMarksOnce, BodiesLeadOn, Exact, ExactAll, Exactly, HeadAlone, IsBare, KeptAlone, KeptWayAlone, LeadsOn, PartedAlone}
use Rattle.walk_owes.proofs.Scopes.{returned_leaves}

pub leads_scope : (xs : List ℕ) (all : CsStmtTrees) → LeadsOn (Scope xs all) → AllLeadOn all
leads_scope xs all h = record { around = in_items xs all h.around; each = h.each.1; forward = h.each.0 }

pub leads_switch : (e : CsExprTree) (xs : List ℕ) (all : CsStmtTrees) → LeadsOn (Switch e xs all) → AllLeadOn all
leads_switch e xs all h = record { around = in_items xs all h.around; each = h.each.1; forward = h.each.0.0 }

switch_once : (e : CsExprTree) (xs : List ℕ) (all : CsStmtTrees) → LeadsOn (Switch e xs all) → AreMarksOnce all
switch_once e xs all h = h.each.0.1

there_is : {A : Type 0} (o : Option A) (P : A → Type 0) (a : A) → o ≡ Some a → IfSome o P → P a
there_is o P a e h = rw e at h

pub body_leads : (q : CsProgramTree) (f : ℕ) (function : CsFunctionTree) → BodiesLeadOn q → slice_get q.functions f ≡ Some function → LeadsOn function.body
body_leads q f function b e = there_is (slice_get q.functions f) (λ g. LeadsOn g.body) function e (b f)

module _ {M : Type 0} (sharp : M → State → Type 0) (q : CsProgramTree) (to : Target) where
  -- ---- the end of a scope

  module _ (xs : List ℕ) (mid after : Option M) (inner kept more : List (Kept M)) (found out later : List Alarm)
      (leaves : (s : State) → InSome sharp mid s → InSome sharp after (leave xs s))
      (dead : mid ≡ None → after ≡ None)
      (empty : inner ≡ [] → more ≡ kept)
      (one : (x : Kept M) (s : State) → inner ≡ x ∷ [] → kept ≡ [] → sharp x.state s → KeptAlone sharp more x.way (leave xs s))
      (listed : out ≡ [] → later ≡ found)
      (e : kept ≡ []) (f : out ≡ []) where
    left_alone : (w : Way) (s : State) → KeptAlone sharp inner w s → KeptAlone sharp more w (leave xs s)
    left_alone w s h = subst (λ v. KeptAlone sharp more v (leave xs s)) h.2 (one h.0 s h.1 e h.3)

    left_way : (w : _) (s : State) → KeptWayAlone sharp to inner w s → KeptWayAlone sharp to more w (leave xs s)
    left_way (ByExit k) s h = left_alone (ways.Exit k) s h
    left_way (ByGoto l) s h = left_alone (ways.Goto l) s h
    left_way (ByReturn v) s h = subst (λ t. KeptAlone sharp more ways.Return t) (returned_leaves to v xs s) (left_alone ways.Return (returned to v s) h)

    pub exactly_scope : (o : Outcome) → Exactly sharp q to mid inner found o → Exactly sharp q to after more later (at_scope xs o)
    exactly_scope (Normal s) h = (leaves s h.0, empty h.1 ∙ e, listed f ∙ h.2)
    exactly_scope (Leaves w s) h = (dead h.0, left_way w s h.1, listed f ∙ h.2)
    exactly_scope (Fails c at k x m) h = (dead h.0, empty h.1 ∙ e, subst (λ l. ListedAlone q l c at k x m) (sym (listed f)) h.2)
    exactly_scope Stopped h = (dead h.0, empty h.1 ∙ e, listed f ∙ h.2)
    exactly_scope Waiting h = tt
    exactly_scope Stuck h = tt
    exactly_scope Clash h = tt
    exactly_scope NoFuel h = tt
    exactly_scope Over h = tt

  free_case : (b : Bool) (xs : List ℕ) (after : Option M) (kept : List (Kept M)) (out : List Alarm) (o : Outcome)
      → (b ≡ true → Exactly sharp q to after kept out (at_scope xs o)) → Exactly sharp q to after kept out (if b then at_scope xs o else Clash)
  free_case true xs after kept out o f = f refl
  free_case false xs after kept out o f = tt

  module _ (over : ℕ → Bool) where
    pub scope_exact : (xs : List ℕ) (all : CsStmtTrees) (before entered : M) (heads : List (Head M)) (mid after : Option M) (inner kept more : List (Kept M))
        (found out later : List Alarm)
        → ((s : State) → are_free xs s ≡ true → sharp before s → sharp entered (enter q.objects xs s)) → ((mark : Mark) → IsBare heads mark)
        → ExactAll sharp over q to all heads (Some entered) mid inner found
        → ((s : State) → InSome sharp mid s → InSome sharp after (leave xs s)) → (mid ≡ None → after ≡ None) → (inner ≡ [] → more ≡ kept)
        → ((x : Kept M) (s : State) → inner ≡ x ∷ [] → kept ≡ [] → sharp x.state s → KeptAlone sharp more x.way (leave xs s)) → (out ≡ [] → later ≡ found)
        → Exact sharp over q to (Scope xs all) (Some before) after kept out more later
    scope_exact xs all before entered heads mid after inner kept more found out later enters bare x leaves dead empty one listed = record {
      by = λ b l n s h e f. free_case (are_free xs s) xs after more later (caught (later_by over q n) all (items over q (later_by over q n) None all (enter q.objects xs s)))
          (λ i. exactly_scope xs mid after inner kept more found out later leaves dead empty one listed e f
          (caught (later_by over q n) all (items over q (later_by over q n) None all (enter q.objects xs s)))
          (x.by b (leads_scope xs all l) n None (enter q.objects xs s) (enters s i h, bare)));
    }

  -- ---- the end of a call

  given_is : (c : CsCallTree) (v : Option Value) (s : State) → given_to c v s ≡ returned (target_of c) v s
  given_is c None s = refl
  given_is c (Some v) s = refl

  module _ (c : CsCallTree) (mid fallen given after : Option M) (inner kept : List (Kept M)) (found out later : List Alarm)
      (empty : found ≡ [] → later ≡ out)
      (one : (x : Alarm) → found ≡ x ∷ [] → out ≡ [] → (y : Alarm) × (later ≡ y ∷ []) × IsMoved c.pos x y)
      (falls : (s : State) → InSome sharp mid s → InSome sharp fallen (returned (target_of c) None s))
      (dead : mid ≡ None → fallen ≡ None)
      (miss : inner ≡ [] → given ≡ None)
      (hit : (x : Kept M) → inner ≡ x ∷ [] → x.way ≡ ways.Return → given ≡ Some x.state)
      (first : given ≡ None → after ≡ fallen)
      (second : fallen ≡ None → after ≡ given)
      (e : kept ≡ []) (f : out ≡ []) where
    reported : (calls : List Pos) (at : Pos) (k : WrongKind) (x : Operand) (m : ObjectMemory) → ListedAlone q found calls at k x m
        → ListedAlone q later (c.pos ∷ calls) at k x m
    reported calls at k x m h =
        let r = h.2 in
        let y = one h.0 h.1 f in
        let v = y.2 in (
          y.0,
          y.1,
          record {
            chain = v.chain ∙ ap (λ z. c.pos ∷ z) r.chain;
            place = v.place ∙ r.place;
            kind = v.kind ∙ r.kind;
            shown = rw v.shown r.shown;
            facts = rw v.facts r.facts;
          },
        )

    exactly_call : (o : Outcome) → Exactly sharp q (target_of c) mid inner found o → Exactly sharp q to after kept later (at_call c o)
    exactly_call (Normal s) h =
        (subst (λ m. InSome sharp m (given_to c None s)) (sym (first (miss h.1))) (subst (InSome sharp fallen) (sym (given_is c None s)) (falls s h.0)), e, empty h.2 ∙ f)
    exactly_call (Leaves (ByExit k) s) h = tt
    exactly_call (Leaves (ByGoto l) s) h = tt
    exactly_call (Leaves (ByReturn v) s) h =
        let y = h.1 in
        (subst (λ m. InSome sharp m (given_to c v s)) (sym (second (dead h.0) ∙ hit y.0 y.1 y.2)) (subst (sharp y.0.state) (sym (given_is c v s)) y.3), e, empty h.2 ∙ f)
    exactly_call (Fails calls at k x m) h = (first (miss h.1) ∙ dead h.0, e, reported calls at k x m h.2)
    exactly_call Stopped h = (first (miss h.1) ∙ dead h.0, e, empty h.2 ∙ f)
    exactly_call Waiting h = tt
    exactly_call Stuck h = tt
    exactly_call Clash h = tt
    exactly_call NoFuel h = tt
    exactly_call Over h = tt

  module _ (over : ℕ → Bool) where
    call_passed : (n : ℕ) (c : CsCallTree) (function : CsFunctionTree) (entered : M) (mid after : Option M) (inner0 inner kept : List (Kept M))
        (found0 found later : List Alarm) → BodiesLeadOn q → LeadsOn function.body
        → Exact sharp over q (target_of c) function.body (Some entered) mid inner0 found0 inner found → inner0 ≡ [] → found0 ≡ []
        → ((o : Outcome) → Exactly sharp q (target_of c) mid inner found o → Exactly sharp q to after kept later (at_call c o))
        → (t : Option State) → ((u : State) → t ≡ Some u → sharp entered u)
        → Exactly sharp q to after kept later (or_stuck t (λ u. at_call c ((later_by over q n).statement Anew function.body u)))
    call_passed n c function entered mid after inner0 inner kept found0 found later b l x i j g None p = tt
    call_passed zero c function entered mid after inner0 inner kept found0 found later b l x i j g (Some u) p = tt
    call_passed (suc n) c function entered mid after inner0 inner kept found0 found later b l x i j g (Some u) p =
        g (bounded_exec over q n function.body u) (x.by b l n u (p u refl) i j)

    pub call_exact : (c : CsCallTree) (function : CsFunctionTree) (before entered : M) (mid fallen given after : Option M) (inner0 inner kept : List (Kept M))
        (found0 found out later : List Alarm) → slice_get q.functions c.function ≡ Some function
        → ((s t : State) → sharp before s → pass c.args function.params s ≡ Some t → sharp entered t) → inner0 ≡ [] → found0 ≡ []
        → Exact sharp over q (target_of c) function.body (Some entered) mid inner0 found0 inner found
        → (found ≡ [] → later ≡ out) → ((x : Alarm) → found ≡ x ∷ [] → out ≡ [] → (y : Alarm) × (later ≡ y ∷ []) × IsMoved c.pos x y)
        → ((s : State) → InSome sharp mid s → InSome sharp fallen (returned (target_of c) None s)) → (mid ≡ None → fallen ≡ None)
        → (inner ≡ [] → given ≡ None) → ((x : Kept M) → inner ≡ x ∷ [] → x.way ≡ ways.Return → given ≡ Some x.state)
        → (given ≡ None → after ≡ fallen) → (fallen ≡ None → after ≡ given)
        → Exact sharp over q to (Call c) (Some before) after kept out kept later
    call_exact c function before entered mid fallen given after inner0 inner kept found0 found out later there p i j x empty one falls dead miss hit first second =
        record {
          by = λ b l n s h e f. rw there (call_passed n c function entered mid after inner0 inner kept found0 found later b
              (body_leads q c.function function b there) x i j
              (exactly_call c mid fallen given after inner kept found out later empty one falls dead miss hit first second e f)
              (pass c.args function.params s) (λ u k. p s u h k));
        }

    pub call_none_exact : (c : CsCallTree) (before after : Option M) (kept more : List (Kept M)) (out later : List Alarm)
        → slice_get q.functions c.function ≡ None → Exact sharp over q to (Call c) before after kept out more later
    call_none_exact c before after kept more out later there = record { by = λ b l n s h e f. rw there tt }

no_int_ptr : {t : IntType} {k : ℤ} {p : Pointer} → values.Ptr p ≡ values.Int t k → ⊥
no_int_ptr i = absurd (cc)

no_int_null : {t : IntType} {k : ℤ} → values.Null ≡ values.Int t k → ⊥
no_int_null i = absurd (cc)

both_ways : {b : Bool} → b ≡ false → b ≡ true → ⊥
both_ways e f = absurd (cc)

module _ {M : Type 0} (sharp : M → State → Type 0) (over : ℕ → Bool) (q : CsProgramTree) (to : Target) (e : CsExprTree) (xs : List ℕ) (all : CsStmtTrees) (before : M)
    (cases heads : List (Head M)) (left behind mid ended after : Option M) (inner kept more : List (Kept M)) (found out later : List Alarm)
    (parted : PartedAlone sharp q e xs all none before cases left)
    (entered : has AtDefault all ≡ true → (s : State) → InSome sharp left s → ((mark : Mark) → IsBare cases mark)
    → (behind ≡ None) × (are_free xs s ≡ true → HeadAlone sharp heads marks.Default (enter q.objects xs s)) × ((other : Mark) → IsBare heads other ⊎ (other ≡ marks.Default)))
    (stays : has AtDefault all ≡ false → (heads ≡ cases) × (behind ≡ left))
    (gone : left ≡ None → (heads ≡ cases) × (behind ≡ None))
    (x : ExactAll sharp over q to all heads None mid inner found)
    (leaves : (s : State) → InSome sharp mid s → InSome sharp ended (leave xs s))
    (dead : mid ≡ None → ended ≡ None)
    (empty : inner ≡ [] → more ≡ kept)
    (one : (y : Kept M) (s : State) → inner ≡ y ∷ [] → kept ≡ [] → sharp y.state s → KeptAlone sharp more y.way (leave xs s))
    (listed : out ≡ [] → later ≡ found)
    (first : behind ≡ None → after ≡ ended)
    (second : ended ≡ None → after ≡ behind) where
  module _ (b : BodiesLeadOn q) (l : LeadsOn (Switch e xs all)) (n : ℕ) (i : kept ≡ []) (j : out ≡ []) where
    -- items that are entered at a mark
    at_mark : (s : State) (mark : Mark) → behind ≡ None → has (mark_of mark) all ≡ true
        → (are_free xs s ≡ true → HeadAlone sharp heads mark (enter q.objects xs s)) → ((other : Mark) → IsBare heads other ⊎ (other ≡ mark))
        → Exactly sharp q to after more later (within q xs s (λ t. caught (later_by over q n) all (items over q (later_by over q n) (Some (mark_of mark)) all t)))
    at_mark s mark d there h others =
        free_case sharp q to (are_free xs s) xs after more later
        (caught (later_by over q n) all (items over q (later_by over q n) (Some (mark_of mark)) all (enter q.objects xs s)))
        (λ free. subst (λ m. Exactly sharp q to m more later (at_scope xs (caught (later_by over q n) all
        (items over q (later_by over q n) (Some (mark_of mark)) all (enter q.objects xs s))))) (sym (first d))
        (exactly_scope sharp q to xs mid ended inner kept more found out later leaves dead empty one listed i j
        (caught (later_by over q n) all (items over q (later_by over q n) (Some (mark_of mark)) all (enter q.objects xs s)))
        (x.by b (leads_switch e xs all l) n (Some (mark_of mark)) (enter q.objects xs s)
        (mark, refl, refl, there, h free, others, switch_once e xs all l))))

    at_default : (s : State) (c : Bool) → has AtDefault all ≡ c → InSome sharp left s → ((mark : Mark) → IsBare cases mark)
        → Exactly sharp q to after more later
        (where_chosen (if c then Some AtDefault else None) s
        (λ mark. within q xs s (λ t. caught (later_by over q n) all (items over q (later_by over q n) (Some mark) all t))))
    at_default s true c h bare = let y = entered c s h bare in at_mark s marks.Default y.0 c y.1 y.2
    at_default s false c h bare =
        let y = stays c in
        let z = x.dead refl (λ mark. subst (λ hs. IsBare hs mark) (sym y.0) (bare mark)) in
        (subst (λ m. InSome sharp m s) (sym (second (dead z.0) ∙ y.1)) h, empty z.1 ∙ i, listed j ∙ z.2)

    at_case : (s : State) (k : ℤ) (c : Bool) → has (AtCase k) all ≡ c
        → (InSome sharp left s × (has (AtCase k) all ≡ false) × ((mark : Mark) → IsBare cases mark))
        ⊎ ((has (AtCase k) all ≡ true) × (left ≡ None) × (are_free xs s ≡ true → HeadAlone sharp cases (marks.Case k) (enter q.objects xs s))
        × ((other : Mark) → IsBare cases other ⊎ (other ≡ marks.Case k)))
        → Exactly sharp q to after more later
        (where_chosen (if c then Some (AtCase k) else (if has AtDefault all then Some AtDefault else None)) s
        (λ mark. within q xs s (λ t. caught (later_by over q n) all (items over q (later_by over q n) (Some mark) all t))))
    at_case s k true c h = ⊎_elim (λ r. absurd (both_ways r.1 c))
        (λ r. let g = gone r.1 in at_mark s (marks.Case k) g.1 c
        (λ free. subst (λ hs. HeadAlone sharp hs (marks.Case k) (enter q.objects xs s)) (sym g.0) (r.2 free))
        (λ other. subst (λ hs. IsBare hs other ⊎ (other ≡ marks.Case k)) (sym g.0) (r.3 other))) h
    at_case s k false c h = ⊎_elim (λ r. at_default s (has AtDefault all) refl r.0 r.2) (λ r. absurd (both_ways c r.0)) h

    at_value : (s : State) (o : Option Value) → value_of e s ≡ o → sharp before s → ((v : Value) → o ≡ Some v → (t : IntType) × (k : ℤ) × (v ≡ values.Int t k))
        → Exactly sharp q to after more later
        (or_stuck o (λ v. where_chosen (chosen v all) s
        (λ mark. within q xs s (λ t. caught (later_by over q n) all (items over q (later_by over q n) (Some mark) all t)))))
    at_value s None is h w = tt
    at_value s (Some (values.Int t k)) is h w = at_case s k (has (AtCase k) all) refl (parted.by s t k h is)
    at_value s (Some (values.Ptr p)) is h w = let z = w (values.Ptr p) refl in absurd (no_int_ptr z.2)
    at_value s (Some values.Null) is h w = let z = w values.Null refl in absurd (no_int_null z.2)

  -- a switch, by what its items come to from its cases and its default
  pub switch_exact : ((s : State) (v : Value) → sharp before s → value_of e s ≡ Some v → (t : IntType) × (k : ℤ) × (v ≡ values.Int t k))
      → Exact sharp over q to (Switch e xs all) (Some before) after kept out more later
  switch_exact whole = record { by = λ b l n s h i j. at_value b l n i j s (value_of e s) refl h (λ v k. whole s v h k) }
