-- What each action keeps, the meaning keeps: by induction on fuel and on the statement.
use Rattle.std.proofs.Common.{◌≡◌, ℕ, zero, suc, Bool, true, false, List, [], ◌∷◌, Option, Some, None, refl}
use Rattle.std.specs.Prelude.{if◌then◌else◌, IfSome, slice_get}
use Rattle.c_syntax_written.specs.declared.int_type.IntType.{IntType}
use Rattle.c_syntax_written.specs.declared.place.Pos.{Pos}
use Rattle.block_mem.specs.declared.types.Scalar.{Scalar}
use Rattle.block_mem.specs.declared.types.Value.{Value}
use Rattle.c_values.specs.Looks.{Judged, Passes, FailsAs, NoOperand, judge}
use Rattle.c_values.specs.Places.{ObjectMemory}
use Rattle.c_values.specs.Values.{truth}
use Rattle.csharp.specs.Trees.{CsExprTree, CsStmtTree, Nothing, Set, Load, Store, CopyBytes, Undefine, Checked, Input, Assume, Sequence, If, Loop, Block, Exit, Scope}
use Rattle.csharp.specs.Trees.{Switch, Goto, Call, Return, Label, Case, Default, CsStmtTrees, none, more, CsCallTree, CsFunctionTree, CsProgramTree}
use Rattle.csharp.specs.States.{State, value_of, look_of}
use Rattle.csharp.specs.Actions.{set, load, store, copy_bytes, undefine, input, enter, leave, are_free, given_to, pass}
use Rattle.csharp.specs.Outcomes.{Way, ByExit, ByGoto, ByReturn, Outcome, Normal, Leaves, Fails, Waiting, Stopped, Stuck, Clash, NoFuel, Over}
use Rattle.csharp.specs.Outcomes.{then_do, or_stuck, to_normal, or_waits, told, at_block, at_scope, at_call}
use Rattle.csharp.specs.Formed.{Around, Each, EachItem, in_block, in_items, nothing_around}
use Rattle.csharp.specs.Meaning.{Mark, AtLabel, is_mark, has, chosen, How, Anew, Turn, turns_of, Later, caught, within, where_chosen, level, items, later_by, bounded_exec}

-- Code is of kinds: what each statement in code of a kind is to be, what holds of states, of values that code of a kind returns, and of memory at a check that
-- fails
module _ (q : CsProgramTree) (Kind : Type 0) (Own : Kind → Around → CsStmtTree → Type 0) (Good : State → Type 0) (Given : Kind → State → Value → Type 0)
    (Sound : ObjectMemory → Type 0) where
  -- a call: the callee's body is code of a kind, the state in which it begins is good, and so is the one behind its end
  pub record IsCalled (c : CsCallTree) (f : CsFunctionTree) (t : State) : Type 0 where
    pub kind : Kind
    pub code : Each (Own kind) nothing_around f.body
    pub passed : Good t
    pub ended : (u : State) → Good u → Good (given_to c None u)
    pub given : (u : State) (v : Value) → Good u → Given kind u v → Good (given_to c (Some v) u)

  pub record ActionsKeep : Type 0 where
    pub set : (k : Kind) (around : Around) (d : ℕ) (e : CsExprTree) (s : State) → Own k around (Set d e) → Good s → IfSome (set d e s) Good
    pub load : (k : Kind) (around : Around) (d : ℕ) (ty : Scalar) (e : CsExprTree) (s : State) → Own k around (Load d ty e) → Good s
        → IfSome (load d ty e s) Good
    pub store : (k : Kind) (around : Around) (ty : Scalar) (e f : CsExprTree) (s : State) → Own k around (Store ty e f) → Good s
        → IfSome (store ty e f s) Good
    pub copy : (k : Kind) (around : Around) (n : ℕ) (to from : CsExprTree) (s : State) → Own k around (CopyBytes n to from) → Good s
        → IfSome (copy_bytes n to from s) Good
    pub undefine : (k : Kind) (around : Around) (x : ℕ) (s : State) → Own k around (Undefine x) → Good s → IfSome (undefine x s) Good
    pub input : (k : Kind) (around : Around) (d : ℕ) (t : IntType) (s : State) → Own k around (Input d t) → Good s → IfSome (input d t s) Good
    pub scope : (k : Kind) (around : Around) (xs : List ℕ) (all : CsStmtTrees) (s : State) → Own k around (Scope xs all) → Good s → are_free xs s ≡ true
        → Good (enter q.objects xs s)
    pub switch : (k : Kind) (around : Around) (e : CsExprTree) (xs : List ℕ) (all : CsStmtTrees) (s : State) → Own k around (Switch e xs all) → Good s
        → are_free xs s ≡ true → Good (enter q.objects xs s)
    pub left : (xs : List ℕ) (s : State) → Good s → Good (leave xs s)
    pub left_given : (k : Kind) (xs : List ℕ) (s : State) (v : Value) → Given k s v → Given k (leave xs s) v
    pub returned : (k : Kind) (around : Around) (e : CsExprTree) (s : State) (v : Value) → Own k around (Return (Some e)) → Good s → value_of e s ≡ Some v
        → Given k s v
    pub called : (k : Kind) (around : Around) (c : CsCallTree) (f : CsFunctionTree) (s t : State) → Own k around (Call c) → Good s
        → slice_get q.functions c.function ≡ Some f → pass c.args f.params s ≡ Some t → IsCalled c f t
    pub failing : (s : State) → Good s → Sound s.memory

  abbrev pub Fits : Kind → State → Way → Type 0
  Fits k s (ByExit level) = Unit {0}
  Fits k s (ByGoto label) = Unit {0}
  Fits k s (ByReturn None) = Unit {0}
  Fits k s (ByReturn (Some v)) = Given k s v

  abbrev pub Ends : Kind → Outcome → Type 0
  Ends k (Normal t) = Good t
  Ends k (Leaves way t) = Good t × Fits k t way
  Ends k (Fails chain at kind operand m) = Sound m
  Ends k o = Unit {0}

  -- what is done at less fuel
  pub record LaterKeeps (later : Later) : Type 0 where
    pub statement : (k : Kind) (around : Around) (how : How) (a : CsStmtTree) (s : State) → Each (Own k) around a → Good s → Ends k (later.statement how a s)
    pub items : (k : Kind) (around : Around) (mark : Mark) (all : CsStmtTrees) (s : State) → EachItem (Own k) around all → Good s
        → Ends k (later.items mark all s)

  module _ (acts : ActionsKeep) where
    then_ends : (k : Kind) (o : Outcome) (next : State → Outcome) → Ends k o → ((t : State) → Good t → Ends k (next t)) → Ends k (then_do o next)
    then_ends k (Normal t) next h go = go t h
    then_ends k (Leaves way t) next h go = h
    then_ends k (Fails chain at kind operand m) next h go = h
    then_ends k Waiting next h go = tt
    then_ends k Stopped next h go = tt
    then_ends k Stuck next h go = tt
    then_ends k Clash next h go = tt
    then_ends k NoFuel next h go = tt
    then_ends k Over next h go = tt

    some_ends : {A : Type 0} (k : Kind) (o : Option A) (next : A → Outcome) → ((a : A) → o ≡ Some a → Ends k (next a)) → Ends k (or_stuck o next)
    some_ends k None next go = tt
    some_ends k (Some a) next go = go a refl

    if_ends : (k : Kind) (z : Bool) (o p : Outcome) → Ends k o → Ends k p → Ends k (if z then o else p)
    if_ends k true o p h g = h
    if_ends k false o p h g = g

    normal_ends : (k : Kind) (o : Option State) → IfSome o Good → Ends k (to_normal o)
    normal_ends k None h = tt
    normal_ends k (Some t) h = h

    waits_ends : (k : Kind) (o : Option State) → IfSome o Good → Ends k (or_waits o)
    waits_ends k None h = tt
    waits_ends k (Some t) h = h

    told_ends : (k : Kind) (j : Judged) (at : Pos) (s : State) → Good s → Ends k (told j at s)
    told_ends k Passes at s h = h
    told_ends k (FailsAs kind operand) at s h = acts.failing s h
    told_ends k NoOperand at s h = tt

    block_ends : (k : Kind) (o : Outcome) → Ends k o → Ends k (at_block o)
    block_ends k (Normal t) h = h
    block_ends k (Leaves (ByExit zero) t) h = h.0
    block_ends k (Leaves (ByExit (suc n)) t) h = (h.0, tt)
    block_ends k (Leaves (ByGoto label) t) h = h
    block_ends k (Leaves (ByReturn v) t) h = h
    block_ends k (Fails chain at kind operand m) h = h
    block_ends k Waiting h = tt
    block_ends k Stopped h = tt
    block_ends k Stuck h = tt
    block_ends k Clash h = tt
    block_ends k NoFuel h = tt
    block_ends k Over h = tt

    left_fits : (k : Kind) (xs : List ℕ) (t : State) (way : Way) → Fits k t way → Fits k (leave xs t) way
    left_fits k xs t (ByExit n) h = tt
    left_fits k xs t (ByGoto label) h = tt
    left_fits k xs t (ByReturn None) h = tt
    left_fits k xs t (ByReturn (Some v)) h = acts.left_given k xs t v h

    scope_ends : (k : Kind) (xs : List ℕ) (o : Outcome) → Ends k o → Ends k (at_scope xs o)
    scope_ends k xs (Normal t) h = acts.left xs t h
    scope_ends k xs (Leaves way t) h = (acts.left xs t h.0, left_fits k xs t way h.1)
    scope_ends k xs (Fails chain at kind operand m) h = h
    scope_ends k xs Waiting h = tt
    scope_ends k xs Stopped h = tt
    scope_ends k xs Stuck h = tt
    scope_ends k xs Clash h = tt
    scope_ends k xs NoFuel h = tt
    scope_ends k xs Over h = tt

    free_ends : (k : Kind) (xs : List ℕ) (s : State) (next : State → Outcome) (z : Bool) → are_free xs s ≡ z
        → (are_free xs s ≡ true → Ends k (next (enter q.objects xs s))) → Ends k (if z then at_scope xs (next (enter q.objects xs s)) else Clash)
    free_ends k xs s next true e go = scope_ends k xs (next (enter q.objects xs s)) (go e)
    free_ends k xs s next false e go = tt

    within_ends : (k : Kind) (xs : List ℕ) (s : State) (next : State → Outcome) → (are_free xs s ≡ true → Ends k (next (enter q.objects xs s)))
        → Ends k (within q xs s next)
    within_ends k xs s next go = free_ends k xs s next (are_free xs s) refl go

    chosen_ends : (k : Kind) (s : State) (o : Option Mark) (next : Mark → Outcome) → Good s → ((mark : Mark) → Ends k (next mark))
        → Ends k (where_chosen o s next)
    chosen_ends k s None next h go = h
    chosen_ends k s (Some mark) next h go = go mark

    call_ends : (k : Kind) (c : CsCallTree) (f : CsFunctionTree) (t : State) (h : IsCalled c f t) (o : Outcome) → Ends h.kind o → Ends k (at_call c o)
    call_ends k c f t h (Normal u) e = h.ended u e
    call_ends k c f t h (Leaves (ByReturn None) u) e = h.ended u e.0
    call_ends k c f t h (Leaves (ByReturn (Some v)) u) e = h.given u v e.0 e.1
    call_ends k c f t h (Leaves (ByExit n) u) e = tt
    call_ends k c f t h (Leaves (ByGoto label) u) e = tt
    call_ends k c f t h (Fails chain at kind operand m) e = e
    call_ends k c f t h Waiting e = tt
    call_ends k c f t h Stopped e = tt
    call_ends k c f t h Stuck e = tt
    call_ends k c f t h Clash e = tt
    call_ends k c f t h NoFuel e = tt
    call_ends k c f t h Over e = tt

    pub caught_ends : (later : Later) → LaterKeeps later → (k : Kind) (around : Around) (all : CsStmtTrees) (o : Outcome) → EachItem (Own k) around all → Ends k o
        → Ends k (caught later all o)
    caught_ends later l k around all (Normal t) own h = h
    caught_ends later l k around all (Leaves (ByGoto label) t) own h =
        if_ends k (has (AtLabel label) all) (later.items (AtLabel label) all t) (Leaves (ByGoto label) t) (l.items k around (AtLabel label) all t own h.0) h
    caught_ends later l k around all (Leaves (ByExit n) t) own h = h
    caught_ends later l k around all (Leaves (ByReturn v) t) own h = h
    caught_ends later l k around all (Fails chain at kind operand m) own h = h
    caught_ends later l k around all Waiting own h = tt
    caught_ends later l k around all Stopped own h = tt
    caught_ends later l k around all Stuck own h = tt
    caught_ends later l k around all Clash own h = tt
    caught_ends later l k around all NoFuel own h = tt
    caught_ends later l k around all Over own h = tt

    module _ (over : ℕ → Bool) (later : Later) (l : LaterKeeps later) where
      mutual
        pub level_ends : (k : Kind) (around : Around) (how : How) (a : CsStmtTree) (s : State) → Each (Own k) around a → Good s
            → Ends k (level over q later how a s)
        level_ends k around how Nothing s own h = h
        level_ends k around how (Set d e) s own h = normal_ends k (set d e s) (acts.set k around d e s own h)
        level_ends k around how (Load d ty e) s own h = normal_ends k (load d ty e s) (acts.load k around d ty e s own h)
        level_ends k around how (Store ty e f) s own h = normal_ends k (store ty e f s) (acts.store k around ty e f s own h)
        level_ends k around how (CopyBytes n to from) s own h = normal_ends k (copy_bytes n to from s) (acts.copy k around n to from s own h)
        level_ends k around how (Undefine x) s own h = normal_ends k (undefine x s) (acts.undefine k around x s own h)
        level_ends k around how (Checked c) s own h = told_ends k (judge q.objects (look_of c s ∷ [])) c.pos s h
        level_ends k around how (Input d t) s own h = waits_ends k (input d t s) (acts.input k around d t s own h)
        level_ends k around how (Assume e) s own h = some_ends {A = Value} k (value_of e s) _ (λ v is. if_ends k (truth v) _ _ h tt)
        level_ends k around how (Sequence a b) s (own, first, second) h =
            then_ends k _ _ (level_ends k around Anew a s first h) (λ t g. level_ends k around Anew b t second g)
        level_ends k around how (If e a b) s (own, first, second) h =
            some_ends {A = Value} k (value_of e s) _
            (λ v is. if_ends k (truth v) _ _ (level_ends k around Anew a s first h) (level_ends k around Anew b s second h))
        level_ends k around how (Loop at a) s (own, inner) h =
            if_ends k (over (turns_of how)) _ _ tt
            (then_ends k _ _ (level_ends k around Anew a s inner h)
            (λ t g. l.statement k around (Turn (suc (turns_of how))) (Loop at a) t (own, inner) g))
        level_ends k around how (Block a) s (own, inner) h = block_ends k _ (level_ends k (in_block around) Anew a s inner h)
        level_ends k around how (Exit n) s own h = (h, tt)
        level_ends k around how (Scope xs all) s (own, inner) h =
            within_ends k xs s (λ t. caught later all (items over q later None all t)) (λ free. caught_ends later l k (in_items xs all around) all _ inner
            (items_end k (in_items xs all around) None all (enter q.objects xs s) inner (acts.scope k around xs all s own h free)))
        level_ends k around how (Switch e xs all) s (own, inner) h =
            some_ends {A = Value} k (value_of e s) _ (λ v is. chosen_ends k s (chosen v all) _ h (λ mark. within_ends k xs s (λ t. caught later all (items over q later (Some mark) all t))
            (λ free. caught_ends later l k (in_items xs all around) all _ inner
            (items_end k (in_items xs all around) (Some mark) all (enter q.objects xs s) inner (acts.switch k around e xs all s own h free)))))
        level_ends k around how (Goto label) s own h = (h, tt)
        level_ends k around how (Call c) s own h =
            some_ends {A = CsFunctionTree} k (slice_get q.functions c.function) _ (λ f is. some_ends {A = State} k (pass c.args f.params s) _
            (λ t passed. let called = acts.called k around c f s t own h is passed in
            call_ends k c f t called (later.statement Anew f.body t) (l.statement called.kind nothing_around Anew f.body t called.code called.passed)))
        level_ends k around how (Return None) s own h = (h, tt)
        level_ends k around how (Return (Some e)) s own h =
            some_ends {A = Value} k (value_of e s) _ (λ v is. (h, acts.returned k around e s v own h is))
        level_ends k around how (Label at n) s own h = h
        level_ends k around how (Case n) s own h = h
        level_ends k around how Default s own h = h

        pub items_end : (k : Kind) (around : Around) (from : Option Mark) (all : CsStmtTrees) (s : State) → EachItem (Own k) around all → Good s
            → Ends k (items over q later from all s)
        items_end k around None none s own h = h
        items_end k around (Some mark) none s own h = h
        items_end k around None (more item rest) s (own, others) h =
            then_ends k _ _ (level_ends k around Anew item s own h) (λ t g. items_end k around None rest t others g)
        items_end k around (Some mark) (more item rest) s (own, others) h =
            items_end k around (if is_mark mark item then None else Some mark) rest s others h

    pub later_keeps : (over : ℕ → Bool) (n : ℕ) → LaterKeeps (later_by over q n)
    later_keeps over zero = record { statement = λ k around how a s own h. tt; items = λ k around mark all s own h. tt }
    later_keeps over (suc n) = record {
      statement = λ k around how a s own h. level_ends over (later_by over q n) (later_keeps over n) k around how a s own h;
      items = λ k around mark all s own h. caught_ends (later_by over q n) (later_keeps over n) k around all _ own
          (items_end over (later_by over q n) (later_keeps over n) k around (Some mark) all s own h);
    }

    pub exec_keeps : (over : ℕ → Bool) (fuel : ℕ) (k : Kind) (around : Around) (a : CsStmtTree) (s : State) → Each (Own k) around a → Good s
        → Ends k (bounded_exec over q fuel a s)
    exec_keeps over fuel k around a s own h = level_ends over (later_by over q fuel) (later_keeps over fuel) k around Anew a s own h
