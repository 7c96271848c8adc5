-- Runs of formed programs come to what is not held where they come to far pointers and to bytes that cannot be read, by induction on fuel and on the statement.
use Rattle.std.proofs.Common.{◌≡◌, ℕ, zero, suc, ◌<◌, Bool, true, false, List, [], ◌∷◌, length, Option, Some, None, refl}
use Rattle.std.specs.Prelude.{◌||◌, if◌then◌else◌, nat_lt, All, slice_get}
use Rattle.std.specs.Option.{option_map_or}
use Rattle.std.proofs.lemmas.Bool.{lt-ltb}
use Rattle.std.proofs.lemmas.List.Elements.{All-head, All-tail}
use Rattle.block_mem.specs.declared.types.Value.{Value}
use Rattle.c_objects.proofs.Keeping.{Keeps}
use Rattle.c_values.specs.Values.{truth}
use Rattle.csharp.specs.Trees.{CsStmtTree, Nothing, Set, Load, Store, CopyBytes, Undefine, Checked, Input, Assume, Sequence, If, Loop, Block, Exit, Scope}
use Rattle.csharp.specs.Trees.{Switch, Goto, Call, Return, Label, Case, Default, CsStmtTrees, none, more, CsFunctionTree, CsProgramTree}
use Rattle.csharp.specs.States.{State, first, value_of}
use Rattle.csharp.specs.Actions.{enter, are_free, pass}
use Rattle.csharp.specs.Outcomes.{ByExit, ByGoto, ByReturn, Outcome, Normal, Leaves, Fails, Waiting, Stopped, Stuck, Clash, NoFuel, Over}
use Rattle.csharp.specs.Formed.{AreOperandsTyped, Around, Each, EachItem, IsCheckFormed, IsFormed, in_block, in_items, nothing_around}
use Rattle.csharp.specs.Meaning.{Mark, AtLabel, is_mark, has, chosen, How, Anew, Turn, turns_of, Later, level, items, later_by}
use Rattle.csharp_typed_laws.specs.TypedStates.{IsTypedCode, IsTypedState}
use Rattle.csharp_typed_laws.proofs.Actions.{Typed, enter_typed}
use Rattle.csharp_typed_laws.proofs.Keeping.{Ends, LaterKeeps, items_end, later_keeps, level_ends}
use Rattle.csharp_typed_laws.proofs.Starts.{first_typed}
use Rattle.csharp_typed_laws.proofs.Stays.{Given, Kind, Own, actions_keep, at_function, body_typed, call_typed, code_of, returns_of, state_of, typed_of}
use Rattle.csharp_exec.specs.Meets.{Less, are_there, behind_goto, behind_normal, comes_past, less_by, meets, met_among, met_within}
use Rattle.csharp_held_laws.specs.Far.{comes_far, far_among, far_by, far_within, goes_far}
use Rattle.csharp_held_laws.specs.Held.{CodeIsHeld, RunsAreHeld}
use Rattle.csharp_held_laws.proofs.Actions.{action_held, pass_held}
use Rattle.csharp_held_laws.proofs.Begun.{starts_held}
use Rattle.csharp_held_laws.proofs.Numbers.{and_true}
use Rattle.csharp_held_laws.proofs.Values.{held, same_or, same_test}

same_if : (z : Bool) (a b c d : Bool) → a ≡ b → c ≡ d → (if z then a else c) ≡ (if z then b else d)
same_if true a b c d h g = h
same_if false a b c d h g = g

module _ (q : CsProgramTree) (formed : IsFormed q) (over : ℕ → Bool) where
  abbrev pub Code : Kind → Around → CsStmtTree → Type 0
  Code k around a = Each (Own ⊥ q k) around a

  abbrev pub Items : Kind → Around → CsStmtTrees → Type 0
  Items k around all = EachItem (Own ⊥ q k) around all

  abbrev pub Checks : Around → CsStmtTree → Type 0
  Checks around a = Each (λ here b. IsCheckFormed q b) around a

  abbrev pub ItemChecks : Around → CsStmtTrees → Type 0
  ItemChecks around all = EachItem (λ here b. IsCheckFormed q b) around all

  abbrev pub Good : Kind → Outcome → Type 0
  Good k o = Ends q Kind (Own ⊥ q) (Typed ⊥ q) (Given ⊥ q) (Keeps ⊥ q.objects) k o

  all_there : (xs : List ℕ) → All (λ x. x < length q.objects) xs → are_there q xs ≡ true
  all_there [] h = refl
  all_there (x ∷ xs) h =
      and_true (nat_lt x (length q.objects)) (are_there q xs) (lt-ltb x (length q.objects) (All-head (λ y. y < length q.objects) x xs h))
      (all_there xs (All-tail (λ y. y < length q.objects) x xs h))

  there_case : (z a b : Bool) → z ≡ true → a ≡ b → (if z then a else true) ≡ b
  there_case z a b e h = rw e h

  free_case : (xs : List ℕ) (s : State) (a b : Bool) (z : Bool) → are_free xs s ≡ z → are_there q xs ≡ true → (are_free xs s ≡ true → a ≡ b)
      → (if z then (if are_there q xs then a else true) else false) ≡ (if z then b else false)
  free_case xs s a b true e there h = there_case (are_there q xs) a b there (h e)
  free_case xs s a b false e there h = refl

  within_same : (xs : List ℕ) (s : State) (next other : State → Bool) → All (λ x. x < length q.objects) xs
      → (are_free xs s ≡ true → next (enter q.objects xs s) ≡ other (enter q.objects xs s)) → met_within q xs s next ≡ far_within q xs s other
  within_same xs s next other there h =
      free_case xs s (next (enter q.objects xs s)) (other (enter q.objects xs s)) (are_free xs s) refl (all_there xs there) h

  normal_same : (k : Kind) (o : Outcome) (next other : State → Bool) → Good k o → ((t : State) → Typed ⊥ q t → next t ≡ other t)
      → behind_normal o next ≡ behind_normal o other
  normal_same k (Normal t) next other h go = go t h
  normal_same k (Leaves way t) next other h go = refl
  normal_same k (Fails chain at kind operand m) next other h go = refl
  normal_same k Waiting next other h go = refl
  normal_same k Stopped next other h go = refl
  normal_same k Stuck next other h go = refl
  normal_same k Clash next other h go = refl
  normal_same k NoFuel next other h go = refl
  normal_same k Over next other h go = refl

  -- the same is met at less fuel
  pub record SameLess (less far : Less) : Type 0 where
    pub statement : (k : Kind) (around : Around) (how : How) (a : CsStmtTree) (s : State) → Code k around a → Checks around a → Typed ⊥ q s
        → less.statement how a s ≡ far.statement how a s
    pub items : (k : Kind) (around : Around) (mark : Mark) (all : CsStmtTrees) (s : State) → Items k around all → ItemChecks around all → Typed ⊥ q s
        → less.items mark all s ≡ far.items mark all s

  goto_same : (less far : Less) → SameLess less far → (k : Kind) (around : Around) (all : CsStmtTrees) (o : Outcome) → Items k around all
      → ItemChecks around all → Good k o → behind_goto less all o ≡ behind_goto far all o
  goto_same less far same k around all (Leaves (ByGoto label) t) own checks h =
      same_if (has (AtLabel label) all) _ _ false false (same.items k around (AtLabel label) all t own checks h.0) refl
  goto_same less far same k around all (Leaves (ByExit n) t) own checks h = refl
  goto_same less far same k around all (Leaves (ByReturn v) t) own checks h = refl
  goto_same less far same k around all (Normal t) own checks h = refl
  goto_same less far same k around all (Fails chain at kind operand m) own checks h = refl
  goto_same less far same k around all Waiting own checks h = refl
  goto_same less far same k around all Stopped own checks h = refl
  goto_same less far same k around all Stuck own checks h = refl
  goto_same less far same k around all Clash own checks h = refl
  goto_same less far same k around all NoFuel own checks h = refl
  goto_same less far same k around all Over own checks h = refl

  -- the checks of a function
  checks_of : (f : ℕ) (function : CsFunctionTree) → slice_get q.functions f ≡ Some function → Checks nothing_around function.body
  checks_of f function is = at_function ⊥ q formed (λ g h. Checks nothing_around h.body) f function formed.checks is

  module _ (later : Later) (l : LaterKeeps q Kind (Own ⊥ q) (Typed ⊥ q) (Given ⊥ q) (Keeps ⊥ q.objects) later) (less far : Less) (same : SameLess less far) where
    behind : (k : Kind) (around : Around) (a : CsStmtTree) (s : State) → Code k around a → Typed ⊥ q s → Good k (level over q later Anew a s)
    behind k around a s own h =
        level_ends q Kind (Own ⊥ q) (Typed ⊥ q) (Given ⊥ q) (Keeps ⊥ q.objects) (actions_keep ⊥ q formed) over later l k around Anew a s own h

    behind_items : (k : Kind) (around : Around) (from : Option Mark) (all : CsStmtTrees) (s : State) → Items k around all → Typed ⊥ q s
        → Good k (items over q later from all s)
    behind_items k around from all s own h =
        items_end q Kind (Own ⊥ q) (Typed ⊥ q) (Given ⊥ q) (Keeps ⊥ q.objects) (actions_keep ⊥ q formed) over later l k around from all s own h

    -- items that catch gotos to their labels
    caught_same : (k : Kind) (around : Around) (from : Option Mark) (all : CsStmtTrees) (s : State) → Items k around all → ItemChecks around all → Typed ⊥ q s
        → met_among over q later less from all s ≡ far_among over q later far from all s
        → (met_among over q later less from all s || behind_goto less all (items over q later from all s))
        ≡ (far_among over q later far from all s || behind_goto far all (items over q later from all s))
    caught_same k around from all s own checks h among =
        same_or _ _ _ _ among (goto_same less far same k around all (items over q later from all s) own checks (behind_items k around from all s own h))

    mutual
      pub level_same : (k : Kind) (around : Around) (how : How) (a : CsStmtTree) (s : State) → Code k around a → Checks around a → Typed ⊥ q s
          → meets over q later less how a s ≡ goes_far over q later far how a s
      level_same k around how (Sequence a b) s (own, one, other) (check, ones, others) h =
          same_or _ _ _ _ (level_same k around Anew a s one ones h)
          (normal_same k (level over q later Anew a s) (λ t. meets over q later less Anew b t) (λ t. goes_far over q later far Anew b t)
          (behind k around a s one h) (λ t g. level_same k around Anew b t other others g))
      level_same k around how (If e a b) s (own, one, other) (check, ones, others) h =
          same_or _ _ _ _ (held q s (state_of ⊥ q s h) e (All-head (AreOperandsTyped q) e [] own.0.0))
          (same_test {A = Value} (value_of e s) _ _ (λ v is. same_if (truth v) _ _ _ _ (level_same k around Anew a s one ones h)
          (level_same k around Anew b s other others h)))
      level_same k around how (Loop at a) s (own, inner) (check, checks) h =
          same_if (over (turns_of how)) false false _ _ refl
          (same_or _ _ _ _ (level_same k around Anew a s inner checks h)
          (normal_same k (level over q later Anew a s) (λ t. less.statement (Turn (suc (turns_of how))) (Loop at a) t)
          (λ t. far.statement (Turn (suc (turns_of how))) (Loop at a) t) (behind k around a s inner h)
          (λ t g. same.statement k around (Turn (suc (turns_of how))) (Loop at a) t (own, inner) (check, checks) g)))
      level_same k around how (Block a) s (own, inner) (check, checks) h = level_same k (in_block around) Anew a s inner checks h
      level_same k around how (Scope xs all) s (own, inner) (check, checks) h =
          within_same xs s (λ t. met_among over q later less None all t || behind_goto less all (items over q later None all t))
          (λ t. far_among over q later far None all t || behind_goto far all (items over q later None all t)) own.1.2
          (λ free. let g = enter_typed ⊥ q s xs h own.1.2 free in
          caught_same k (in_items xs all around) None all (enter q.objects xs s) inner checks g
          (items_same k (in_items xs all around) None all (enter q.objects xs s) inner checks g))
      level_same k around how (Switch e xs all) s (own, inner) (check, checks) h =
          same_or _ _ _ _ (held q s (state_of ⊥ q s h) e (All-head (AreOperandsTyped q) e [] own.0.0))
          (same_test {A = Value} (value_of e s) _ _ (λ v is. same_test {A = Mark} (chosen v all) _ _ (λ mark found.
          within_same xs s (λ t. met_among over q later less (Some mark) all t || behind_goto less all (items over q later (Some mark) all t))
          (λ t. far_among over q later far (Some mark) all t || behind_goto far all (items over q later (Some mark) all t)) own.1.2
          (λ free. let g = enter_typed ⊥ q s xs h own.1.2 free in
          caught_same k (in_items xs all around) (Some mark) all (enter q.objects xs s) inner checks g
          (items_same k (in_items xs all around) (Some mark) all (enter q.objects xs s) inner checks g)))))
      level_same k around how (Call c) s own check h =
          same_test {A = CsFunctionTree} (slice_get q.functions c.function) _ _ (λ f is.
          let call = call_typed ⊥ q formed c f own.0 is in
          same_or _ _ _ _ (pass_held q s (state_of ⊥ q s h) c.args f.params own.0.0 call.args)
          (same_test {A = State} (pass c.args f.params s) (λ t. less.statement Anew f.body t) (λ t. far.statement Anew f.body t) (λ t passed.
          let called = (actions_keep ⊥ q formed).called k around c f s t own h is passed in
          same.statement called.kind nothing_around Anew f.body t called.code (checks_of c.function f is) called.passed)))
      level_same k around how (Set d e) s own check h = action_held q s (state_of ⊥ q s h) (Set d e) own.0 check
      level_same k around how (Load d ty e) s own check h = action_held q s (state_of ⊥ q s h) (Load d ty e) own.0 check
      level_same k around how (Store ty e f) s own check h = action_held q s (state_of ⊥ q s h) (Store ty e f) own.0 check
      level_same k around how (CopyBytes n to from) s own check h = action_held q s (state_of ⊥ q s h) (CopyBytes n to from) own.0 check
      level_same k around how (Checked c) s own check h = action_held q s (state_of ⊥ q s h) (Checked c) own.0 check
      level_same k around how (Assume e) s own check h = action_held q s (state_of ⊥ q s h) (Assume e) own.0 check
      level_same k around how (Return e) s own check h = action_held q s (state_of ⊥ q s h) (Return e) own.0 check
      level_same k around how Nothing s own check h = refl
      level_same k around how (Undefine x) s own check h = refl
      level_same k around how (Input d t) s own check h = refl
      level_same k around how (Exit n) s own check h = refl
      level_same k around how (Goto label) s own check h = refl
      level_same k around how (Label at n) s own check h = refl
      level_same k around how (Case n) s own check h = refl
      level_same k around how Default s own check h = refl

      pub items_same : (k : Kind) (around : Around) (from : Option Mark) (all : CsStmtTrees) (s : State) → Items k around all → ItemChecks around all
          → Typed ⊥ q s → met_among over q later less from all s ≡ far_among over q later far from all s
      items_same k around None none s own check h = refl
      items_same k around (Some mark) none s own check h = refl
      items_same k around None (more item rest) s (own, others) (check, checks) h =
          same_or _ _ _ _ (level_same k around Anew item s own check h)
          (normal_same k (level over q later Anew item s) (λ t. met_among over q later less None rest t) (λ t. far_among over q later far None rest t)
          (behind k around item s own h) (λ t g. items_same k around None rest t others checks g))
      items_same k around (Some mark) (more item rest) s (own, others) (check, checks) h =
          items_same k around (if is_mark mark item then None else Some mark) rest s others checks h

    pub row_same : (k : Kind) (around : Around) (from : Option Mark) (all : CsStmtTrees) (s : State) → Items k around all → ItemChecks around all → Typed ⊥ q s
        → (met_among over q later less from all s || behind_goto less all (items over q later from all s))
        ≡ (far_among over q later far from all s || behind_goto far all (items over q later from all s))
    row_same k around from all s own checks h = caught_same k around from all s own checks h (items_same k around from all s own checks h)

  keeps_by : (n : ℕ) → LaterKeeps q Kind (Own ⊥ q) (Typed ⊥ q) (Given ⊥ q) (Keeps ⊥ q.objects) (later_by over q n)
  keeps_by n = later_keeps q Kind (Own ⊥ q) (Typed ⊥ q) (Given ⊥ q) (Keeps ⊥ q.objects) (actions_keep ⊥ q formed) over n

  same_by : (n : ℕ) → SameLess (less_by over q n) (far_by over q n)
  same_by zero = record { statement = λ k around how a s own checks h. refl; items = λ k around mark all s own checks h. refl }
  same_by (suc n) = record {
    statement = λ k around how a s own checks h.
        level_same (later_by over q n) (keeps_by n) (less_by over q n) (far_by over q n) (same_by n) k around how a s own checks h;
    items = λ k around mark all s own checks h.
        row_same (later_by over q n) (keeps_by n) (less_by over q n) (far_by over q n) (same_by n) k around (Some mark) all s own checks h;
  }

  pub code_same : (fuel : ℕ) (into : Option ℕ) (around : Around) (a : CsStmtTree) (s : State) → IsTypedCode q into around a → Checks around a
      → IsTypedState q s → comes_past over q fuel a s ≡ comes_far over q fuel a s
  code_same fuel into around a s code checks h =
      level_same (later_by over q fuel) (keeps_by fuel) (less_by over q fuel) (far_by over q fuel) (same_by fuel)
      (record { into = into; labels = code.labels }) around Anew a s
      (code_of ⊥ q into code.labels around a code.types code.numbers (returns_of ⊥ q into around a code.returns)) checks (typed_of q s h)

  main_same : (fuel : ℕ) (s : State) (o : Option CsFunctionTree) → slice_get q.functions q.main ≡ o → IsTypedState q s
      → option_map_or (λ f. comes_past over q fuel f.body s) o false ≡ option_map_or (λ f. comes_far over q fuel f.body s) o false
  main_same fuel s None is h = refl
  main_same fuel s (Some f) is h =
      code_same fuel None nothing_around f.body s (body_typed ⊥ q formed q.main f is) (checks_of q.main f is) h

  begins_same : (z a b : Bool) → z ≡ false → a ≡ b → (z || a) ≡ b
  begins_same z a b e h = rw e h

pub code_held : CodeIsHeld
code_held over q fuel into around a s formed code checks h = code_same q formed over fuel into around a s code checks h

pub runs_held : RunsAreHeld
runs_held over q fuel inputs formed bits =
    let h = state_of ⊥ q (first q inputs) (first_typed q inputs formed.objects.initial bits) in
    begins_same q formed over _ _ _ (starts_held q formed) (main_same q formed over fuel (first q inputs) (slice_get q.functions q.main) refl h)
