-- Scopes, switches, calls and passes over sets of typed states, by what is done to the sets alone.
use Rattle.std.proofs.Common.{◌≡◌, ◌⊎◌, ⊎_elim, inl, inr, ℕ, ℤ, ◌<◌, List, [], ◌∷◌, length, Option, Some, None, Bool, true, false, refl}
use Rattle.std.specs.Prelude.{All, slice_get}
use Rattle.c_syntax_written.specs.declared.int_type.IntType.{IntType}
use Rattle.c_syntax_written.specs.declared.place.Pos.{Pos}
use Rattle.c_syntax.specs.declared.alarm.Alarm.{Alarm}
use Rattle.c_syntax.specs.declared.alarm.WrongKind.{WrongKind}
use Rattle.c_syntax.specs.Operand.{Operand}
use Rattle.block_mem.specs.declared.types.Scalar.TheVariants as scalars
use Rattle.block_mem.specs.declared.types.Value.{Value}
use Rattle.block_mem.specs.declared.types.Value.TheVariants as values
use Rattle.block_mem.specs.Bytes.{IsOf}
use Rattle.c_values.specs.Places.{ObjectMemory}
use Rattle.c_values.specs.Values.{truth}
use Rattle.csharp.specs.Trees.{Call, CsCallTree, CsExprTree, CsFunctionTree, CsStmtTree, CsStmtTrees, none, more, Scope, Switch, CsProgramTree}
use Rattle.csharp.specs.States.{State, value_of}
use Rattle.csharp.specs.Actions.{are_free, enter, leave, pass}
use Rattle.csharp.specs.Meaning as meaning
use Rattle.csharp.specs.Meaning.{AtDefault, AtLabel, has, is_mark}
use Rattle.csharp_typed_laws.specs.Kept.{EnterKeeps, LeaveKeeps, SetKeeps, ValuesAreTyped}
use Rattle.alarm_claims.specs.Analyzed.{Listed}
use Rattle.walk_owes.specs.declared.marks.Head.{Head}
use Rattle.walk_owes.specs.declared.marks.Mark.{Mark}
use Rattle.walk_owes.specs.declared.marks.Mark.TheVariants as marks
use Rattle.walk_owes.specs.declared.way.Kept.{Kept}
use Rattle.walk_owes.specs.declared.way.Target.{Target}
use Rattle.walk_owes.specs.declared.way.Way.{Way}
use Rattle.walk_owes.specs.declared.way.Way.TheVariants as ways
use Rattle.walk_owes.specs.Owes.{Grows, HasTyped, InSome, KeepsState, Sound, SoundIf, returned}
use Rattle.walk_owes.specs.Heads.{HeadsAmong, IsHead, LabelsHave}
use Rattle.walk_owes.specs.Items.{Begins, CoveredAll, HasHead, Parted, PassesOn, SoundItems, Stays, mark_of}
use Rattle.walk_owes.specs.Walkable.{AreArgsReady, IsSwitchOwn, IsTarget, target_of}
use Rattle.walk_owes.proofs.Acting.{none_typed, pass_typed}
use Rattle.walk_owes.proofs.Closing.{scope_items}
use Rattle.walk_owes.proofs.Heads.{begins_more}
use Rattle.walk_owes.proofs.Scopes.{closed_pass, passes_more, scope_sound}
use Rattle.walk_owes.proofs.Steps.{call_sound, covered_on}
use Rattle.walk_owes.proofs.Switches.{switch_sound}
use Rattle.walk_owes.proofs.Typed.{head_of, head_with, keeps_of, keeps_on, keeps_with, some_of, some_on, some_with, stays_with}

module _ {M : Type 0} (stands : M → State → Type 0) (q : CsProgramTree) (to : Target) where
  -- one side of a choice
  pub side_sound : (e : CsExprTree) (b : Bool) (a : CsStmtTree) (before mid : M) (after : Option M) (kept : List (Kept M)) (out : List Alarm)
      → ((s : State) (v : Value) → stands before s → value_of e s ≡ Some v → truth v ≡ b → stands mid s)
      → Sound (HasTyped stands q) q to a (Some mid) after kept out → SoundIf (HasTyped stands q) q to e b a before after kept out
  side_sound e b a before mid after kept out f x = record { by = λ over n s h t. x.by over n s (f s t.0 h.0 t.1 t.2, h.1) }

  pub side_dead : (e : CsExprTree) (b : Bool) (a : CsStmtTree) (before : M) (after : Option M) (kept : List (Kept M)) (out : List Alarm)
      → ((s : State) (v : Value) → stands before s → value_of e s ≡ Some v → truth v ≡ b → ⊥) → SoundIf (HasTyped stands q) q to e b a before after kept out
  side_dead e b a before after kept out f = record { by = λ over n s h t. absurd (f s t.0 h.0 t.1 t.2) }

  pub grows_with : (kept later : List (Kept M)) (out more1 : List Alarm) → ((w : Way) (s : State) → KeepsState stands kept w s → KeepsState stands later w s)
      → ((c : List Pos) (at : Pos) (k : WrongKind) (x : Operand) (m : ObjectMemory) → Listed q out c at k x m → Listed q more1 c at k x m)
      → Grows (HasTyped stands q) q kept out later more1
  grows_with kept later out more1 f g = record { keeps = keeps_on stands q kept later f; lists = g }

  ended : (leaves : LeaveKeeps) (xs : List ℕ) (mid after : Option M) → ((s : State) → InSome stands mid s → InSome stands after (leave xs s)) → (s : State)
      → InSome (HasTyped stands q) mid s → InSome (HasTyped stands q) after (leave xs s)
  ended leaves xs mid after f s h = let x = some_of stands q mid s h in some_with stands q after (leave xs s) (f s x.0) (leaves q s xs x.1)

  left_all : (leaves : LeaveKeeps) (xs : List ℕ) (inner kept : List (Kept M))
      → ((w : Way) (s : State) → KeepsState stands inner w s → KeepsState stands kept w (leave xs s)) → (w : Way) (s : State)
      → KeepsState (HasTyped stands q) inner w s → KeepsState (HasTyped stands q) kept w (leave xs s)
  left_all leaves xs inner kept f w s h = let x = keeps_of stands q inner w s h in keeps_with stands q kept w (leave xs s) (f w s x.0) (leaves q s xs x.1)

  pub scope_typed : (enters : EnterKeeps) (leaves : LeaveKeeps) (xs : List ℕ) (all : CsStmtTrees) (heads : List (Head M)) (before entered : M) (mid after : Option M)
      (inner kept : List (Kept M)) (found out : List Alarm)
      → All (λ x. x < length q.objects) xs
      → ((s : State) → are_free xs s ≡ true → stands before s → stands entered (enter q.objects xs s))
      → CoveredAll (HasTyped stands q) q to all (Begins (HasTyped stands q) all heads (Some entered)) mid inner found
      → ((c : List Pos) (at : Pos) (k : WrongKind) (x : Operand) (m : ObjectMemory) → Listed q found c at k x m → Listed q out c at k x m)
      → ((s : State) → InSome stands mid s → InSome stands after (leave xs s))
      → ((w : Way) (s : State) → KeepsState stands inner w s → KeepsState stands kept w (leave xs s))
      → Sound (HasTyped stands q) q to (Scope xs all) (Some before) after kept out
  scope_typed enters leaves xs all heads before entered mid after inner kept found out names e x l f g =
      scope_sound (HasTyped stands q) q to xs all before entered mid after inner kept out
      (λ s i h. (e s i h.0, enters q s xs h.1 names i))
      (scope_items (HasTyped stands q) q to all heads entered mid inner found out x l)
      (ended leaves xs mid after f) (left_all leaves xs inner kept g)

  whole_of : (t : IntType) (v : Value) → IsOf (scalars.Int t) v → (u : IntType) × (k : ℤ) × (v ≡ values.Int u k)
  whole_of t (values.Int u k) h = (u, k, refl)
  whole_of t (values.Ptr p) h = absurd h
  whole_of t values.Null h = absurd h

  covered_lists : (all : CsStmtTrees) (heads : List (Head M)) (flow : Option M) (mid : Option M) (inner : List (Kept M)) (found out : List Alarm)
      → CoveredAll (HasTyped stands q) q to all (Begins (HasTyped stands q) all heads flow) mid inner found
      → ((c : List Pos) (at : Pos) (k : WrongKind) (x : Operand) (m : ObjectMemory) → Listed q found c at k x m → Listed q out c at k x m)
      → CoveredAll (HasTyped stands q) q to all (Begins (HasTyped stands q) all heads flow) mid inner out
  covered_lists all heads flow mid inner found out x l over n from s h =
      covered_on (HasTyped stands q) q to mid inner inner found out (record { keeps = λ w t i. i; lists = l })
      (meaning.caught (meaning.later_by over q n) all (meaning.items over q (meaning.later_by over q n) from all s)) (x over n from s h)

  -- what is left enters at the default, and the cases have entered
  parted_typed : (enters : EnterKeeps) (e : CsExprTree) (xs : List ℕ) (all rest : CsStmtTrees) (before : M) (heads later : List (Head M)) (left : Option M)
      → All (λ x. x < length q.objects) xs → ((mark : Mark) (s : State) → HasHead stands heads mark s → HasHead stands later mark s)
      → Parted stands q e xs all rest before heads left → Parted (HasTyped stands q) q e xs all rest before later left
  parted_typed enters e xs all rest before heads later left names on p = record {
    by = λ s t k h i. ⊎_elim
        (λ l. inl (some_with stands q left s l.0 h.1, l.1))
        (λ r. inr (r.0, λ f. head_with stands q later (marks.Case k) (enter q.objects xs s) (on (marks.Case k) (enter q.objects xs s) (r.1 f)) (enters q s xs h.1 names f)))
        (p.by s t k h.0 i);
  }

  pub switch_typed : (enters : EnterKeeps) (leaves : LeaveKeeps) (typed : ValuesAreTyped) (e : CsExprTree) (xs : List ℕ) (all : CsStmtTrees) (before : M)
      (heads later : List (Head M)) (left behind mid ended1 after : Option M) (inner kept : List (Kept M)) (found out : List Alarm)
      → IsSwitchOwn q e all → All (λ x. x < length q.objects) xs → Parted stands q e xs all none before heads left
      → ((mark : Mark) (s : State) → HasHead stands heads mark s → HasHead stands later mark s)
      → (has AtDefault all ≡ true → (s : State) → InSome stands left s → are_free xs s ≡ true → HasHead stands later marks.Default (enter q.objects xs s))
      → (has AtDefault all ≡ false → (s : State) → InSome stands left s → InSome stands behind s)
      → CoveredAll (HasTyped stands q) q to all (Begins (HasTyped stands q) all later None) mid inner found
      → ((c : List Pos) (at : Pos) (k : WrongKind) (x : Operand) (m : ObjectMemory) → Listed q found c at k x m → Listed q out c at k x m)
      → ((s : State) → InSome stands mid s → InSome stands ended1 (leave xs s))
      → ((w : Way) (s : State) → KeepsState stands inner w s → KeepsState stands kept w (leave xs s))
      → ((s : State) → InSome stands ended1 s → InSome stands after s) → ((s : State) → InSome stands behind s → InSome stands after s)
      → Sound (HasTyped stands q) q to (Switch e xs all) (Some before) after kept out
  switch_typed enters leaves typed e xs all before heads later left behind mid ended1 after inner kept found out own names p on at_default past x l f g first second =
      switch_sound (HasTyped stands q) q to e xs all before later left mid after inner kept out
      (parted_typed enters e xs all none before heads later left names on p)
      (λ d s h i. let y = some_of stands q left s h in
      head_with stands q later marks.Default (enter q.objects xs s) (at_default d s y.0 i) (enters q s xs y.1 names i))
      (λ d s h. let y = some_of stands q left s h in some_with stands q after s (second s (past d s y.0)) y.1)
      (covered_lists all later None mid inner found out x l)
      (ended leaves xs mid after (λ s h. first (leave xs s) (f s h)))
      (left_all leaves xs inner kept g)
      (λ s v h i. whole_of own.ty v (typed q s (scalars.Int own.ty) e v h.1 own.operands own.type i).typed)

  pub call_typed : (sets : SetKeeps) (c : CsCallTree) (f : CsFunctionTree) (before entered : M) (mid fallen given after : Option M) (inner kept : List (Kept M))
      (found out : List Alarm)
      → slice_get q.functions c.function ≡ Some f → AreArgsReady q c.args f.params → IsTarget q (target_of c)
      → ((s t : State) → stands before s → pass c.args f.params s ≡ Some t → stands entered t)
      → Sound (HasTyped stands q) q (target_of c) f.body (Some entered) mid inner found
      → ((s : State) → InSome stands mid s → InSome stands fallen (returned (target_of c) None s))
      → ((s : State) → KeepsState stands inner ways.Return s → InSome stands given s)
      → ((s : State) → InSome stands fallen s → InSome stands after s) → ((s : State) → InSome stands given s → InSome stands after s)
      → ((calls : List Pos) (at : Pos) (k : WrongKind) (x : Operand) (m : ObjectMemory) → Listed q found calls at k x m → Listed q out (c.pos ∷ calls) at k x m)
      → Sound (HasTyped stands q) q to (Call c) (Some before) after kept out
  call_typed sets c f before entered mid fallen given after inner kept found out there ready target p x falls gives first second l =
      call_sound (HasTyped stands q) q to c f before entered mid after inner kept found out there
      (λ s t h i. (p s t h.0 i, pass_typed sets q c.args f.params s t ready h.1 i)) x
      (λ s h. let y = some_of stands q mid s h in
      some_with stands q after (returned (target_of c) None s) (first (returned (target_of c) None s) (falls s y.0)) (none_typed sets q (target_of c) s target y.1))
      (λ s h. let y = keeps_of stands q inner ways.Return s h in some_with stands q after s (second s (gives s y.0)) y.1) l

  -- one item of a pass
  pub passes_typed : (all : CsStmtTrees) (item : CsStmtTree) (rest : CsStmtTrees) (heads : List (Head M)) (start flow f1 f2 : Option M)
      (before gone g1 kept k1 k2 : List (Kept M)) (o o2 : List Alarm)
      → PassesOn (HasTyped stands q) q to all (more item rest) heads start before flow gone kept o
      → ((l : ℕ) → is_mark (AtLabel l) item ≡ true → has (AtLabel l) rest ≡ false)
      → ((s : State) → InSome stands flow s → InSome stands f1 s)
      → ((mark : Mark) (s : State) → HasHead stands heads mark s → is_mark (mark_of mark) item ≡ true → InSome stands f1 s)
      → ((l : ℕ) (s : State) → KeepsState stands g1 (ways.Goto l) s → KeepsState stands gone (ways.Goto l) s ⊎ ((is_mark (AtLabel l) item ≡ true) × InSome stands f1 s))
      → ((w : Way) (s : State) → KeepsState stands gone w s → KeepsState stands g1 w s)
      → ((w : Way) (s : State) → KeepsState stands kept w s → Stays stands g1 k1 w s)
      → Sound (HasTyped stands q) q to item f1 f2 k2 o2 → Grows (HasTyped stands q) q k1 o k2 o2
      → PassesOn (HasTyped stands q) q to all rest heads start before f2 g1 k2 o2
  passes_typed all item rest heads start flow f1 f2 before gone g1 kept k1 k2 o o2 p apart flows heads_in came on stays x g =
      passes_more (HasTyped stands q) q to all item rest heads start flow f1 f2 before gone g1 kept k1 k2 o o2 p apart
      (some_on stands q flow f1 flows)
      (λ mark s h e. let y = head_of stands q heads mark s h in some_with stands q f1 s (heads_in mark s y.0 e) y.1)
      (λ l s h. let y = keeps_of stands q g1 (ways.Goto l) s h in
      ⊎_elim (λ a. inl (keeps_with stands q gone (ways.Goto l) s a y.1)) (λ b. inr (b.0, some_with stands q f1 s b.1 y.1)) (came l s y.0))
      (keeps_on stands q gone g1 on)
      (λ w s h. let y = keeps_of stands q kept w s h in stays_with stands q g1 k1 w s (stays w s y.0) y.1) x g

  -- a pass whose heads stay as they are covers all runs, from the first heads too
  pub closed_typed : (all : CsStmtTrees) (first heads : List (Head M)) (flow after : Option M) (gone kept left : List (Kept M)) (out : List Alarm)
      → LabelsHave all heads → HeadsAmong all heads → ((mark : Mark) (s : State) → HasHead stands first mark s → HasHead stands heads mark s)
      → SoundItems (HasTyped stands q) q to all heads flow [] after gone kept out
      → ((l : ℕ) (s : State) → IsHead heads l → KeepsState stands kept (ways.Goto l) s → HasHead stands heads (marks.Label l) s)
      → ((w : Way) (s : State) → KeepsState stands kept w s → KeepsState stands left w s ⊎ ((l : ℕ) × (w ≡ ways.Goto l) × IsHead heads l))
      → CoveredAll (HasTyped stands q) q to all (Begins (HasTyped stands q) all first flow) after left out
  closed_typed all first heads flow after gone kept left out labels among old x closed rest over n from s h =
      closed_pass (HasTyped stands q) q to all heads flow after gone kept left out x
      (λ l u e k. let y = keeps_of stands q kept (ways.Goto l) u k in head_with stands q heads (marks.Label l) u (closed l u (labels l e) y.0) y.1)
      (λ w u k. let y = keeps_of stands q kept w u k in
      ⊎_elim (λ a. inl (keeps_with stands q left w u a y.1)) (λ r. inr (r.0, r.1, among r.0 r.2)) (rest w u y.0))
      over n from s
      (begins_more (HasTyped stands q) all first heads flow (λ mark u k. let y = head_of stands q first mark u k in head_with stands q heads mark u (old mark u y.0) y.1)
      from s h)
