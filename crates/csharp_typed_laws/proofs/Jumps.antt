-- Where exits and gotos lead, by induction on fuel and on the statement.
use Rattle.std.proofs.Common.{◌≡◌, ℕ, zero, suc, Bool, true, false, List, [], ◌∷◌, ◌++◌, Option, Some, None, refl, sym, subst, arith}
use Rattle.std.specs.Prelude.{◌==◌, if◌then◌else◌, Contains, slice_get}
use Rattle.std.proofs.lemmas.Bool.{eq-eqb}
use Rattle.std.proofs.lemmas.List.Elements.{Contains-append_cases}
use Rattle.c_syntax_written.specs.declared.place.Pos.{Pos}
use Rattle.block_mem.specs.declared.types.Value.{Value}
use Rattle.c_values.specs.Looks.{Judged, Passes, FailsAs, NoOperand, judge}
use Rattle.c_values.specs.Values.{truth}
use Rattle.c_objects.proofs.Listed.{by_head, by_sum, none_in}
use Rattle.csharp.specs.Trees.{CsStmtTree, Nothing, Set, Load, Store, CopyBytes, Undefine, Checked, Input, Assume, Sequence, If, Loop, Block, Exit, Scope}
use Rattle.csharp.specs.Trees.{Switch, Goto, Call, Return, Label, Case, Default, CsStmtTrees, none, more, CsCallTree, CsFunctionTree, CsProgramTree}
use Rattle.csharp.specs.States.{State, value_of, look_of}
use Rattle.csharp.specs.Actions.{set, load, store, copy_bytes, undefine, input, enter, are_free, pass}
use Rattle.csharp.specs.Outcomes.{Way, ByExit, ByGoto, ByReturn, Outcome, Normal, Leaves, Fails, Waiting, Stopped, Stuck, Clash, NoFuel, Over}
use Rattle.csharp.specs.Outcomes.{then_do, or_stuck, to_normal, or_waits, told, at_block, at_scope, at_call}
use Rattle.csharp.specs.Formed.{Around, Each, EachItem, AreNumbersThere, StaysOutside, gathered, in_block, in_items, label_of, labels_among, nothing_around}
use Rattle.csharp.specs.Meaning.{Mark, AtLabel, is_mark, has, chosen, How, Anew, Turn, turns_of, Later, caught, within, where_chosen, level, items, later_by}
use Rattle.csharp_typed_laws.specs.Jumps.{BodiesReturn, JumpsLeadAround, LeadsAround, LeavesAround}
use Rattle.csharp_typed_laws.proofs.Stays.{at_function}

-- ---- labels among items are found

yes : (z w : Bool) → z ≡ true → (if z then true else w) ≡ true
yes true w e = refl
yes false w e = absurd (cc)

at_last : (z w : Bool) → w ≡ true → (if z then true else w) ≡ true
at_last true w e = refl
at_last false w e = e

found : (label : ℕ) (all : CsStmtTrees) → Contains (labels_among all) label → has (AtLabel label) all ≡ true
found label none c = absurd (none_in label c)
found label (more (Label at l) rest) c =
    by_sum (by_head l label (labels_among rest) c) (λ e. yes (label == l) (has (AtLabel label) rest) (eq-eqb label l (sym e)))
    (λ later. at_last (label == l) (has (AtLabel label) rest) (found label rest later))
found label (more Nothing rest) c = found label rest c
found label (more (Set d e) rest) c = found label rest c
found label (more (Load d ty e) rest) c = found label rest c
found label (more (Store ty e f) rest) c = found label rest c
found label (more (CopyBytes n to from) rest) c = found label rest c
found label (more (Undefine x) rest) c = found label rest c
found label (more (Checked k) rest) c = found label rest c
found label (more (Input d t) rest) c = found label rest c
found label (more (Assume e) rest) c = found label rest c
found label (more (Sequence a b) rest) c = found label rest c
found label (more (If e a b) rest) c = found label rest c
found label (more (Loop at a) rest) c = found label rest c
found label (more (Block a) rest) c = found label rest c
found label (more (Exit n) rest) c = found label rest c
found label (more (Scope xs items) rest) c = found label rest c
found label (more (Switch e xs items) rest) c = found label rest c
found label (more (Goto l) rest) c = found label rest c
found label (more (Call k) rest) c = found label rest c
found label (more (Return e) rest) c = found label rest c
found label (more (Case n) rest) c = found label rest c
found label (more Default rest) c = found label rest c

-- ---- helpers of outcomes

module _ (around : Around) where
  then_around : (o : Outcome) (next : State → Outcome) → LeavesAround around o → ((t : State) → LeavesAround around (next t)) → LeavesAround around (then_do o next)
  then_around (Normal t) next h go = go t
  then_around (Leaves way t) next h go = h
  then_around (Fails chain at kind operand m) next h go = tt
  then_around Waiting next h go = tt
  then_around Stopped next h go = tt
  then_around Stuck next h go = tt
  then_around Clash next h go = tt
  then_around NoFuel next h go = tt
  then_around Over next h go = tt

  some_around : {A : Type 0} (o : Option A) (next : A → Outcome) → ((a : A) → LeavesAround around (next a)) → LeavesAround around (or_stuck o next)
  some_around None next go = tt
  some_around (Some a) next go = go a

  if_around : (z : Bool) (o p : Outcome) → LeavesAround around o → LeavesAround around p → LeavesAround around (if z then o else p)
  if_around true o p h g = h
  if_around false o p h g = g

  normal_around : (o : Option State) → LeavesAround around (to_normal o)
  normal_around None = tt
  normal_around (Some t) = tt

  waits_around : (o : Option State) → LeavesAround around (or_waits o)
  waits_around None = tt
  waits_around (Some t) = tt

  told_around : (j : Judged) (at : Pos) (s : State) → LeavesAround around (told j at s)
  told_around Passes at s = tt
  told_around (FailsAs kind operand) at s = tt
  told_around NoOperand at s = tt

  block_around : (o : Outcome) → LeavesAround (in_block around) o → LeavesAround around (at_block o)
  block_around (Normal t) h = tt
  block_around (Leaves (ByExit zero) t) h = tt
  block_around (Leaves (ByExit (suc n)) t) h = omega (arith, h)
  block_around (Leaves (ByGoto label) t) h = h
  block_around (Leaves (ByReturn v) t) h = tt
  block_around (Fails chain at kind operand m) h = tt
  block_around Waiting h = tt
  block_around Stopped h = tt
  block_around Stuck h = tt
  block_around Clash h = tt
  block_around NoFuel h = tt
  block_around Over h = tt

  scope_around : (xs : List ℕ) (o : Outcome) → LeavesAround around o → LeavesAround around (at_scope xs o)
  scope_around xs (Normal t) h = tt
  scope_around xs (Leaves way t) h = h
  scope_around xs (Fails chain at kind operand m) h = tt
  scope_around xs Waiting h = tt
  scope_around xs Stopped h = tt
  scope_around xs Stuck h = tt
  scope_around xs Clash h = tt
  scope_around xs NoFuel h = tt
  scope_around xs Over h = tt

  call_around : (c : CsCallTree) (o : Outcome) → LeavesAround around (at_call c o)
  call_around c (Normal t) = tt
  call_around c (Leaves (ByReturn v) t) = tt
  call_around c (Leaves (ByExit n) t) = tt
  call_around c (Leaves (ByGoto label) t) = tt
  call_around c (Fails chain at kind operand m) = tt
  call_around c Waiting = tt
  call_around c Stopped = tt
  call_around c Stuck = tt
  call_around c Clash = tt
  call_around c NoFuel = tt
  call_around c Over = tt

  chosen_around : (s : State) (o : Option Mark) (next : Mark → Outcome) → ((mark : Mark) → LeavesAround around (next mark))
      → LeavesAround around (where_chosen o s next)
  chosen_around s None next go = tt
  chosen_around s (Some mark) next go = go mark

  goto_around : (later : Later) (xs : List ℕ) (all : CsStmtTrees) (label : ℕ) (t : State) (z : Bool) → has (AtLabel label) all ≡ z
      → LeavesAround around (later.items (AtLabel label) all t) → Contains (labels_among all ++ around.labels) label
      → LeavesAround around (if z then later.items (AtLabel label) all t else Leaves (ByGoto label) t)
  goto_around later xs all label t true e there c = there
  goto_around later xs all label t false e there c =
      by_sum (Contains-append_cases (labels_among all) around.labels label c)
      (λ here. let is : has (AtLabel label) all ≡ true = found label all here in absurd (cc)) (λ outside. outside)

  -- a goto to a label of the items is caught
  caught_around : (later : Later) (xs : List ℕ) (all : CsStmtTrees) (o : Outcome)
      → ((label : ℕ) (t : State) → LeavesAround around (later.items (AtLabel label) all t)) → LeavesAround (in_items xs all around) o
      → LeavesAround around (caught later all o)
  caught_around later xs all (Leaves (ByGoto label) t) go h = goto_around later xs all label t (has (AtLabel label) all) refl (go label t) h
  caught_around later xs all (Leaves (ByExit n) t) go h = h
  caught_around later xs all (Leaves (ByReturn v) t) go h = tt
  caught_around later xs all (Normal t) go h = tt
  caught_around later xs all (Fails chain at kind operand m) go h = tt
  caught_around later xs all Waiting go h = tt
  caught_around later xs all Stopped go h = tt
  caught_around later xs all Stuck go h = tt
  caught_around later xs all Clash go h = tt
  caught_around later xs all NoFuel go h = tt
  caught_around later xs all Over go h = tt

  within_around : (q : CsProgramTree) (xs : List ℕ) (s : State) (next : State → Outcome) → ((t : State) → LeavesAround around (next t))
      → LeavesAround around (within q xs s next)
  within_around q xs s next go =
      if_around (are_free xs s) (at_scope xs (next (enter q.objects xs s))) Clash (scope_around xs (next (enter q.objects xs s)) (go (enter q.objects xs s))) tt

-- ---- the induction

module _ (q : CsProgramTree) (labels : List ℕ) where
  abbrev pub Numbers : Around → CsStmtTree → Type 0
  Numbers around a = Each (AreNumbersThere q labels) around a

  abbrev pub ItemNumbers : Around → CsStmtTrees → Type 0
  ItemNumbers around all = EachItem (AreNumbersThere q labels) around all

  -- what is done at less fuel leaves so; behind a mark, what is around the items is around their scope
  pub record LaterLeaves (later : Later) : Type 0 where
    pub statement : (around : Around) (how : How) (a : CsStmtTree) (s : State) → Numbers around a → Each StaysOutside around a
        → LeavesAround around (later.statement how a s)
    pub items : (around : Around) (xs : List ℕ) (mark : Mark) (all : CsStmtTrees) (s : State) → ItemNumbers (in_items xs all around) all
        → EachItem StaysOutside (in_items xs all around) all → LeavesAround around (later.items mark all s)

  module _ (over : ℕ → Bool) (later : Later) (l : LaterLeaves later) where
    mutual
      pub level_around : (around : Around) (how : How) (a : CsStmtTree) (s : State) → Numbers around a → Each StaysOutside around a
          → LeavesAround around (level over q later how a s)
      level_around around how Nothing s n g = tt
      level_around around how (Set d e) s n g = normal_around around (set d e s)
      level_around around how (Load d ty e) s n g = normal_around around (load d ty e s)
      level_around around how (Store ty e f) s n g = normal_around around (store ty e f s)
      level_around around how (CopyBytes k to from) s n g = normal_around around (copy_bytes k to from s)
      level_around around how (Undefine x) s n g = normal_around around (undefine x s)
      level_around around how (Checked c) s n g = told_around around (judge q.objects (look_of c s ∷ [])) c.pos s
      level_around around how (Input d t) s n g = waits_around around (input d t s)
      level_around around how (Assume e) s n g = some_around around {A = Value} (value_of e s) _ (λ v. if_around around (truth v) _ _ tt tt)
      level_around around how (Sequence a b) s (n, na, nb) (g, ga, gb) =
          then_around around _ _ (level_around around Anew a s na ga) (λ t. level_around around Anew b t nb gb)
      level_around around how (If e a b) s (n, na, nb) (g, ga, gb) =
          some_around around {A = Value} (value_of e s) _
          (λ v. if_around around (truth v) _ _ (level_around around Anew a s na ga) (level_around around Anew b s nb gb))
      level_around around how (Loop at a) s (n, na) (g, ga) =
          if_around around (over (turns_of how)) _ _ tt
          (then_around around _ _ (level_around around Anew a s na ga)
          (λ t. l.statement around (Turn (suc (turns_of how))) (Loop at a) t (n, na) (g, ga)))
      level_around around how (Block a) s (n, na) (g, ga) = block_around around _ (level_around (in_block around) Anew a s na ga)
      level_around around how (Exit k) s n g = n.3
      level_around around how (Scope xs all) s (n, ns) (g, gs) =
          within_around around q xs s (λ t. caught later all (items over q later None all t))
          (λ t. caught_around around later xs all (items over q later None all t) (λ label u. l.items around xs (AtLabel label) all u ns gs)
          (items_around (in_items xs all around) None all t ns gs))
      level_around around how (Switch e xs all) s (n, ns) (g, gs) =
          some_around around {A = Value} (value_of e s) _ (λ v. chosen_around around s (chosen v all) _ (λ mark.
          within_around around q xs s (λ t. caught later all (items over q later (Some mark) all t))
          (λ t. caught_around around later xs all (items over q later (Some mark) all t) (λ label u. l.items around xs (AtLabel label) all u ns gs)
          (items_around (in_items xs all around) (Some mark) all t ns gs))))
      level_around around how (Goto label) s n g = g
      level_around around how (Call c) s n g =
          some_around around {A = CsFunctionTree} (slice_get q.functions c.function) _ (λ f. some_around around {A = State} (pass c.args f.params s) _
          (λ t. call_around around c (later.statement Anew f.body t)))
      level_around around how (Return None) s n g = tt
      level_around around how (Return (Some e)) s n g = some_around around {A = Value} (value_of e s) _ (λ v. tt)
      level_around around how (Label at k) s n g = tt
      level_around around how (Case k) s n g = tt
      level_around around how Default s n g = tt

      pub items_around : (around : Around) (from : Option Mark) (all : CsStmtTrees) (s : State) → ItemNumbers around all → EachItem StaysOutside around all
          → LeavesAround around (items over q later from all s)
      items_around around None none s n g = tt
      items_around around (Some mark) none s n g = tt
      items_around around None (more item rest) s (n, ns) (g, gs) =
          then_around around _ _ (level_around around Anew item s n g) (λ t. items_around around None rest t ns gs)
      items_around around (Some mark) (more item rest) s (n, ns) (g, gs) =
          items_around around (if is_mark mark item then None else Some mark) rest s ns gs

  later_leaves : (over : ℕ → Bool) (n : ℕ) → LaterLeaves (later_by over q n)
  later_leaves over zero = record { statement = λ around how a s n g. tt; items = λ around xs mark all s n g. tt }
  later_leaves over (suc k) = record {
    statement = λ around how a s n g. level_around over (later_by over q k) (later_leaves over k) around how a s n g;
    items = λ around xs mark all s n g. caught_around around (later_by over q k) xs all (items over q (later_by over q k) (Some mark) all s)
        (λ label u. (later_leaves over k).items around xs (AtLabel label) all u n g)
        (items_around over (later_by over q k) (later_leaves over k) (in_items xs all around) (Some mark) all s n g);
  }

pub jumps_lead : JumpsLeadAround
jumps_lead over q fuel labels around a s n g =
    level_around q labels over (later_by over q fuel) (later_leaves q labels over fuel) around Anew a s n g

only_returns : (way : Way) → LeadsAround nothing_around way → (v : Option Value) × (way ≡ ByReturn v)
only_returns (ByExit n) h = absurd (omega (arith, h))
only_returns (ByGoto label) h = absurd (none_in label h)
only_returns (ByReturn v) h = (v, refl)

pub bodies_return : BodiesReturn
bodies_return over q fuel f function s t way formed is e =
    let numbers = at_function ⊥ q formed (λ g h. Each (AreNumbersThere q (gathered label_of h.body)) nothing_around h.body) f function formed.numbers is in
    let gotos = at_function ⊥ q formed (λ g h. Each StaysOutside nothing_around h.body) f function formed.gotos is in
    only_returns way (subst (LeavesAround nothing_around) e (jumps_lead over q fuel (gathered label_of function.body) nothing_around function.body s numbers gotos))
