-- Exact walks of scopes, switches, calls and items over sets of typed states, by what is done to the sets alone.
use Rattle.std.proofs.Common.{◌≡◌, ◌⊎◌, ⊎_elim, inl, inr, ℕ, ℤ, ◌<◌, List, [], ◌∷◌, length, Option, Some, None, Bool, true, false, refl}
use Rattle.std.specs.Prelude.{All, ◌≢◌, slice_get}
use Rattle.c_syntax_written.specs.declared.int_type.IntType.{IntType}
use Rattle.c_syntax.specs.declared.alarm.Alarm.{Alarm}
use Rattle.block_mem.specs.declared.types.Scalar.TheVariants as scalars
use Rattle.block_mem.specs.declared.types.Value.{Value}
use Rattle.block_mem.specs.declared.types.Value.TheVariants as values
use Rattle.block_mem.specs.Bytes.{IsOf}
use Rattle.c_values.specs.Values.{truth}
use Rattle.csharp.specs.Trees.{Call, CsCallTree, CsExprTree, CsFunctionTree, CsStmtTree, CsStmtTrees, none, more, Scope, Switch, CsProgramTree}
use Rattle.csharp.specs.States.{State, value_of}
use Rattle.csharp.specs.Actions.{are_free, enter, leave, pass}
use Rattle.csharp.specs.Meaning.{AtDefault, AtLabel, has, is_mark}
use Rattle.csharp_typed_laws.specs.Kept.{EnterKeeps, LeaveKeeps, SetKeeps, ValuesAreTyped}
use Rattle.walk_owes.specs.declared.marks.Head.{Head}
use Rattle.walk_owes.specs.declared.marks.Mark.{Mark}
use Rattle.walk_owes.specs.declared.marks.Mark.TheVariants as marks
use Rattle.walk_owes.specs.declared.way.Kept.{Kept}
use Rattle.walk_owes.specs.declared.way.Target.{Target}
use Rattle.walk_owes.specs.declared.way.Way.TheVariants as ways
use Rattle.walk_owes.specs.Owes.{HasTyped, InSome, IsMoved, returned}
use Rattle.walk_owes.specs.Items.{mark_of}
use Rattle.walk_owes.specs.Exactly.{Behind, Exact, ExactAll, ExactIf, GoesOn, HeadAlone, IsBare, KeptAlone, PartedAlone, StaysDead}
use Rattle.walk_owes.specs.Walkable.{AreArgsReady, IsSwitchOwn, IsTarget, target_of}
use Rattle.walk_owes.proofs.Acting.{none_typed, pass_typed}
use Rattle.walk_owes.proofs.Alone.{head_typed, head_untyped, kept_typed}
use Rattle.walk_owes.proofs.Exactly.{side_dead, side_walked}
use Rattle.walk_owes.proofs.Going.{goes_more}
use Rattle.walk_owes.proofs.Scoping.{call_exact, scope_exact, switch_exact}
use Rattle.walk_owes.proofs.Typed.{some_of, some_with}

whole_of : (t : IntType) (v : Value) → IsOf (scalars.Int t) v → (u : IntType) × (k : ℤ) × (v ≡ values.Int u k)
whole_of t (values.Int u k) h = (u, k, refl)
whole_of t (values.Ptr p) h = absurd h
whole_of t values.Null h = absurd h

module _ {M : Type 0} (sharp : M → State → Type 0) (over : ℕ → Bool) (q : CsProgramTree) (to : Target) where
  -- ---- one side of a choice

  pub side_walked_typed : (e : CsExprTree) (b : Bool) (a : CsStmtTree) (before tested : M) (after : Option M) (k k1 : List (Kept M)) (o o1 : List Alarm)
      → ((s : State) (v : Value) → sharp before s → value_of e s ≡ Some v → truth v ≡ b → sharp tested s)
      → ((s : State) (v : Value) → sharp before s → value_of e s ≡ Some v → truth v ≢ b → ⊥)
      → Exact (HasTyped sharp q) over q to a (Some tested) after k o k1 o1 → ExactIf (HasTyped sharp q) over q to e b a before after k o k1 o1
  side_walked_typed e b a before tested after k k1 o o1 f g x =
      side_walked (HasTyped sharp q) q to over e b a before tested after k k1 o o1 (λ s v h i t. (f s v h.0 i t, h.1)) (λ s v h i t. g s v h.0 i t) x

  pub side_dead_typed : (e : CsExprTree) (b : Bool) (a : CsStmtTree) (before : M) (k : List (Kept M)) (o : List Alarm)
      → ((s : State) (v : Value) → sharp before s → value_of e s ≡ Some v → truth v ≡ b → ⊥) → ExactIf (HasTyped sharp q) over q to e b a before None k o k o
  side_dead_typed e b a before k o f = side_dead (HasTyped sharp q) q to over e b a before k o (λ s v h i t. f s v h.0 i t)

  -- ---- ends of scopes

  ended : (leaves : LeaveKeeps) (xs : List ℕ) (mid after : Option M) → ((s : State) → InSome sharp mid s → InSome sharp after (leave xs s)) → (s : State)
      → InSome (HasTyped sharp q) mid s → InSome (HasTyped sharp q) after (leave xs s)
  ended leaves xs mid after f s h = let x = some_of sharp q mid s h in some_with sharp q after (leave xs s) (f s x.0) (leaves q s xs x.1)

  left_one : (leaves : LeaveKeeps) (xs : List ℕ) (inner kept more1 : List (Kept M))
      → ((x : Kept M) (s : State) → inner ≡ x ∷ [] → kept ≡ [] → sharp x.state s → KeptAlone sharp more1 x.way (leave xs s)) → (x : Kept M) (s : State)
      → inner ≡ x ∷ [] → kept ≡ [] → HasTyped sharp q x.state s → KeptAlone (HasTyped sharp q) more1 x.way (leave xs s)
  left_one leaves xs inner kept more1 f x s i e h = kept_typed sharp q more1 x.way (leave xs s) (f x s i e h.0) (leaves q s xs h.1)

  pub scope_exact_typed : (enters : EnterKeeps) (leaves : LeaveKeeps) (xs : List ℕ) (all : CsStmtTrees) (before entered : M) (heads : List (Head M)) (mid after : Option M)
      (inner kept more1 : List (Kept M)) (found out later : List Alarm)
      → All (λ x. x < length q.objects) xs
      → ((s : State) → are_free xs s ≡ true → sharp before s → sharp entered (enter q.objects xs s)) → ((mark : Mark) → IsBare heads mark)
      → ExactAll (HasTyped sharp q) over q to all heads (Some entered) mid inner found
      → ((s : State) → InSome sharp mid s → InSome sharp after (leave xs s)) → (mid ≡ None → after ≡ None) → (inner ≡ [] → more1 ≡ kept)
      → ((x : Kept M) (s : State) → inner ≡ x ∷ [] → kept ≡ [] → sharp x.state s → KeptAlone sharp more1 x.way (leave xs s)) → (out ≡ [] → later ≡ found)
      → Exact (HasTyped sharp q) over q to (Scope xs all) (Some before) after kept out more1 later
  scope_exact_typed enters leaves xs all before entered heads mid after inner kept more1 found out later names e bare x f dead empty one listed =
      scope_exact (HasTyped sharp q) q to over xs all before entered heads mid after inner kept more1 found out later
      (λ s i h. (e s i h.0, enters q s xs h.1 names i)) bare x (ended leaves xs mid after f) dead empty (left_one leaves xs inner kept more1 one) listed

  -- ---- switches

  parted_typed : (enters : EnterKeeps) (e : CsExprTree) (xs : List ℕ) (all rest : CsStmtTrees) (before : M) (heads : List (Head M)) (left : Option M)
      → All (λ x. x < length q.objects) xs → PartedAlone sharp q e xs all rest before heads left → PartedAlone (HasTyped sharp q) q e xs all rest before heads left
  parted_typed enters e xs all rest before heads left names p = record {
    by = λ s t k h i. ⊎_elim
        (λ l. inl (some_with sharp q left s l.0 h.1, l.1, l.2))
        (λ r. inr (r.0, r.1, λ f. head_typed sharp q heads (marks.Case k) (enter q.objects xs s) (r.2 f) (enters q s xs h.1 names f), r.3))
        (p.by s t k h.0 i);
  }

  pub switch_exact_typed : (enters : EnterKeeps) (leaves : LeaveKeeps) (typed : ValuesAreTyped) (e : CsExprTree) (xs : List ℕ) (all : CsStmtTrees) (before : M)
      (cases heads : List (Head M)) (left behind mid ended1 after : Option M) (inner kept more1 : List (Kept M)) (found out later : List Alarm)
      → IsSwitchOwn q e all → All (λ x. x < length q.objects) xs → PartedAlone sharp q e xs all none before cases left
      → (has AtDefault all ≡ true → (s : State) → InSome sharp left s → ((mark : Mark) → IsBare cases mark)
      → (behind ≡ None) × (are_free xs s ≡ true → HeadAlone sharp heads marks.Default (enter q.objects xs s))
      × ((other : Mark) → IsBare heads other ⊎ (other ≡ marks.Default)))
      → (has AtDefault all ≡ false → (heads ≡ cases) × (behind ≡ left)) → (left ≡ None → (heads ≡ cases) × (behind ≡ None))
      → ExactAll (HasTyped sharp q) over q to all heads None mid inner found
      → ((s : State) → InSome sharp mid s → InSome sharp ended1 (leave xs s)) → (mid ≡ None → ended1 ≡ None) → (inner ≡ [] → more1 ≡ kept)
      → ((x : Kept M) (s : State) → inner ≡ x ∷ [] → kept ≡ [] → sharp x.state s → KeptAlone sharp more1 x.way (leave xs s)) → (out ≡ [] → later ≡ found)
      → (behind ≡ None → after ≡ ended1) → (ended1 ≡ None → after ≡ behind)
      → Exact (HasTyped sharp q) over q to (Switch e xs all) (Some before) after kept out more1 later
  switch_exact_typed enters leaves typed e xs all before cases heads left behind mid ended1 after inner kept more1 found out later own names p entered stays gone x f
      dead empty one listed first second =
      switch_exact (HasTyped sharp q) over q to e xs all before cases heads left behind mid ended1 after inner kept more1 found out later
      (parted_typed enters e xs all none before cases left names p)
      (λ d s h bare. let y = some_of sharp q left s h in let z = entered d s y.0 bare in
      (z.0, λ i. head_typed sharp q heads marks.Default (enter q.objects xs s) (z.1 i) (enters q s xs y.1 names i), z.2))
      stays gone x (ended leaves xs mid ended1 f) dead empty (left_one leaves xs inner kept more1 one) listed first second
      (λ s v h i. whole_of own.ty v (typed q s (scalars.Int own.ty) e v h.1 own.operands own.type i).typed)

  -- ---- calls

  pub call_exact_typed : (sets : SetKeeps) (c : CsCallTree) (function : CsFunctionTree) (before entered : M) (mid fallen given after : Option M)
      (inner0 inner kept : List (Kept M)) (found0 found out later : List Alarm)
      → slice_get q.functions c.function ≡ Some function → AreArgsReady q c.args function.params → IsTarget q (target_of c)
      → ((s t : State) → sharp before s → pass c.args function.params s ≡ Some t → sharp entered t) → inner0 ≡ [] → found0 ≡ []
      → Exact (HasTyped sharp q) over q (target_of c) function.body (Some entered) mid inner0 found0 inner found
      → (found ≡ [] → later ≡ out) → ((x : Alarm) → found ≡ x ∷ [] → out ≡ [] → (y : Alarm) × (later ≡ y ∷ []) × IsMoved c.pos x y)
      → ((s : State) → InSome sharp mid s → InSome sharp fallen (returned (target_of c) None s)) → (mid ≡ None → fallen ≡ None)
      → (inner ≡ [] → given ≡ None) → ((x : Kept M) → inner ≡ x ∷ [] → x.way ≡ ways.Return → given ≡ Some x.state)
      → (given ≡ None → after ≡ fallen) → (fallen ≡ None → after ≡ given)
      → Exact (HasTyped sharp q) over q to (Call c) (Some before) after kept out kept later
  call_exact_typed sets c function before entered mid fallen given after inner0 inner kept found0 found out later there ready target p i j x empty one falls dead miss
      hit first second =
      call_exact (HasTyped sharp q) q to over c function before entered mid fallen given after inner0 inner kept found0 found out later there
      (λ s t h k. (p s t h.0 k, pass_typed sets q c.args function.params s t ready h.1 k)) i j x empty one
      (λ s h. let y = some_of sharp q mid s h in
      some_with sharp q fallen (returned (target_of c) None s) (falls s y.0) (none_typed sets q (target_of c) s target y.1))
      dead miss hit first second

  -- ---- items

  pub goes_more_typed : (all : CsStmtTrees) (heads : List (Head M)) (item : CsStmtTree) (rest : CsStmtTrees) (behind : Behind over q all (more item rest))
      (start flow begun after : Option M) (kept kept1 kept2 : List (Kept M)) (out out2 : List Alarm)
      → (((mark : Mark) → is_mark (mark_of mark) item ≡ true → IsBare heads mark) → kept ≡ [] → (begun ≡ flow) × (kept1 ≡ []))
      → ((mark : Mark) (s : State) → is_mark (mark_of mark) item ≡ true → HeadAlone sharp heads mark s → flow ≡ None → kept ≡ []
      → InSome sharp begun s × (kept1 ≡ []))
      → (((mark : Mark) → is_mark (mark_of mark) item ≡ true → IsBare heads mark) → (k : ℕ) (x : Kept M) → kept ≡ x ∷ [] → x.way ≡ ways.Goto k
      → is_mark (AtLabel k) item ≡ true → flow ≡ None → (begun ≡ Some x.state) × (kept1 ≡ []))
      → (((mark : Mark) → is_mark (mark_of mark) item ≡ true → IsBare heads mark) → (x : Kept M) → kept ≡ x ∷ []
      → ((k : ℕ) → is_mark (AtLabel k) item ≡ true → x.way ≢ ways.Goto k) → (begun ≡ flow) × (kept1 ≡ x ∷ []))
      → Exact (HasTyped sharp q) over q to item begun after kept1 out kept2 out2 → StaysDead begun after kept1 out kept2 out2
      → GoesOn (HasTyped sharp q) over q to all (more item rest) heads start flow kept out → GoesOn (HasTyped sharp q) over q to all rest heads start after kept2 out2
  goes_more_typed all heads item rest behind start flow begun after kept kept1 kept2 out out2 flows enters jumps passes walked stays p =
      goes_more (HasTyped sharp q) over q to all heads item rest behind flow begun after kept kept1 kept2 out out2 flows
      (λ mark s e h d i. let y = head_untyped sharp q heads mark s h in let z = enters mark s e y.0 d i in (some_with sharp q begun s z.0 y.1, z.1))
      jumps passes walked stays start p
