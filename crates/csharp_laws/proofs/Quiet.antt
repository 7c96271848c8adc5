-- A program without an input statement never waits.
use Rattle.std.proofs.Common.{ℕ, zero, suc, Bool, true, false, if◌then◌else◌, subst, List, [], ◌∷◌, Option, Some, None}
use Rattle.std.specs.Prelude.{IfSome, slice_get}
use Rattle.c_syntax_written.specs.declared.place.Pos.{Pos}
use Rattle.c_values.specs.Values.{truth}
use Rattle.c_values.specs.Looks.{Judged, Passes, FailsAs, NoOperand, judge}
use Rattle.csharp.specs.Trees.{CsStmtTree, CsStmtTrees, Nothing, Set, Load, Store, CopyBytes, Undefine, Checked, Input, Assume, Sequence, If, Loop, Block, Exit, Scope, Switch, Goto, Call, Return, Label, Case, Default, none, more, CsCallTree, CsFunctionTree, CsProgramTree}
use Rattle.csharp.specs.States.{State, first, look_of, value_of}
use Rattle.csharp.specs.Actions.{set, load, store, copy_bytes, undefine, enter, are_free, pass}
use Rattle.csharp.specs.Outcomes.{ByExit, ByGoto, ByReturn, Outcome, Normal, Leaves, Fails, Waiting, Stopped, Stuck, Clash, NoFuel, Over}
use Rattle.csharp.specs.Outcomes.{then_do, or_stuck, told, at_block, at_scope, at_call}
use Rattle.csharp.specs.Meaning.{Mark, AtLabel, How, Anew, Turn, Later, caught, where_chosen, call, chosen, has, is_mark, level, items, later_by, bounded_exec, bounded_run, turns_of}
use Rattle.csharp.specs.Formed.{Around, Each, EachItem, Throughout, in_block, in_items, nothing_around}
use Rattle.csharp_laws.specs.Inputs.{IsNoInput, IsInputFree, NeverWaits}

abbrev pub Quiet : Outcome → Type 0
Quiet Waiting = ⊥
Quiet o = Unit {0}

then_quiet : (o : Outcome) (f : State → Outcome) → Quiet o → ((s : State) → Quiet (f s)) → Quiet (then_do o f)
then_quiet (Normal s) f h g = g s
then_quiet (Leaves way s) f h g = tt
then_quiet (Fails c at k x m) f h g = tt
then_quiet Waiting f h g = h
then_quiet Stopped f h g = tt
then_quiet Stuck f h g = tt
then_quiet Clash f h g = tt
then_quiet NoFuel f h g = tt
then_quiet Over f h g = tt

stuck_quiet : {A : Type 0} (o : Option A) (f : A → Outcome) → ((a : A) → Quiet (f a)) → Quiet (or_stuck o f)
stuck_quiet None f g = tt
stuck_quiet (Some a) f g = g a

if_quiet : (b : Bool) (x y : Outcome) → Quiet x → Quiet y → Quiet (if b then x else y)
if_quiet true x y h g = h
if_quiet false x y h g = g

told_quiet : (j : Judged) (at : Pos) (s : State) → Quiet (told j at s)
told_quiet Passes at s = tt
told_quiet (FailsAs k x) at s = tt
told_quiet NoOperand at s = tt

block_quiet : (o : Outcome) → Quiet o → Quiet (at_block o)
block_quiet (Leaves (ByExit zero) s) h = tt
block_quiet (Leaves (ByExit (suc k)) s) h = tt
block_quiet (Leaves (ByGoto l) s) h = tt
block_quiet (Leaves (ByReturn v) s) h = tt
block_quiet (Normal s) h = tt
block_quiet (Fails c at k x m) h = tt
block_quiet Waiting h = h
block_quiet Stopped h = tt
block_quiet Stuck h = tt
block_quiet Clash h = tt
block_quiet NoFuel h = tt
block_quiet Over h = tt

scope_quiet : (xs : List ℕ) (o : Outcome) → Quiet o → Quiet (at_scope xs o)
scope_quiet xs (Normal s) h = tt
scope_quiet xs (Leaves way s) h = tt
scope_quiet xs (Fails c at k x m) h = tt
scope_quiet xs Waiting h = h
scope_quiet xs Stopped h = tt
scope_quiet xs Stuck h = tt
scope_quiet xs Clash h = tt
scope_quiet xs NoFuel h = tt
scope_quiet xs Over h = tt

call_quiet : (c : CsCallTree) (o : Outcome) → Quiet o → Quiet (at_call c o)
call_quiet c (Normal s) h = tt
call_quiet c (Leaves (ByExit k) s) h = tt
call_quiet c (Leaves (ByGoto l) s) h = tt
call_quiet c (Leaves (ByReturn v) s) h = tt
call_quiet c (Fails d at k x m) h = tt
call_quiet c Waiting h = h
call_quiet c Stopped h = tt
call_quiet c Stuck h = tt
call_quiet c Clash h = tt
call_quiet c NoFuel h = tt
call_quiet c Over h = tt

module _ (q : CsProgramTree) (free : IsInputFree q) (over : ℕ → Bool) where
  record QuietLater (later : Later) : Type 0 where
    statement : (how : How) (a : CsStmtTree) (r : Around) → Each (λ around a. IsNoInput a) r a → (s : State) → Quiet (later.statement how a s)
    behind : (mark : Mark) (all : CsStmtTrees) (r : Around) → EachItem (λ around a. IsNoInput a) r all → (s : State) → Quiet (later.items mark all s)

  module _ (later : Later) (quiet : QuietLater later) where
    caught_quiet : (all : CsStmtTrees) (r : Around) → EachItem (λ around a. IsNoInput a) r all → (o : Outcome) → Quiet o → Quiet (caught later all o)
    caught_quiet all r h (Leaves (ByGoto l) s) g =
        if_quiet (has (AtLabel l) all) (later.items (AtLabel l) all s) (Leaves (ByGoto l) s) (quiet.behind (AtLabel l) all r h s) tt
    caught_quiet all r h (Leaves (ByExit k) s) g = tt
    caught_quiet all r h (Leaves (ByReturn v) s) g = tt
    caught_quiet all r h (Normal s) g = tt
    caught_quiet all r h (Fails c at k x m) g = tt
    caught_quiet all r h Waiting g = g
    caught_quiet all r h Stopped g = tt
    caught_quiet all r h Stuck g = tt
    caught_quiet all r h Clash g = tt
    caught_quiet all r h NoFuel g = tt
    caught_quiet all r h Over g = tt

    called_quiet : (c : CsCallTree) (o : Option CsFunctionTree) (s : State)
        → IfSome o (λ function. Each (λ around a. IsNoInput a) nothing_around function.body) → Quiet (or_stuck o (λ g. call later c g s))
    called_quiet c None s h = tt
    called_quiet c (Some function) s h =
        stuck_quiet (pass c.args function.params s) _ (λ t. call_quiet c _ (quiet.statement Anew function.body nothing_around h t))

    chosen_quiet : (o : Option Mark) (s : State) (next : Mark → Outcome) → ((m : Mark) → Quiet (next m)) → Quiet (where_chosen o s next)
    chosen_quiet None s next g = tt
    chosen_quiet (Some m) s next g = g m

    mutual
      level_quiet : (how : How) (a : CsStmtTree) (r : Around) → Each (λ around a. IsNoInput a) r a → (s : State) → Quiet (level over q later how a s)
      level_quiet how Nothing r h s = tt
      level_quiet how (Set d e) r h s = stuck_quiet (set d e s) Normal (λ t. tt)
      level_quiet how (Load d ty e) r h s = stuck_quiet (load d ty e s) Normal (λ t. tt)
      level_quiet how (Store ty e x) r h s = stuck_quiet (store ty e x s) Normal (λ t. tt)
      level_quiet how (CopyBytes n to from) r h s = stuck_quiet (copy_bytes n to from s) Normal (λ t. tt)
      level_quiet how (Undefine x) r h s = stuck_quiet (undefine x s) Normal (λ t. tt)
      level_quiet how (Checked c) r h s = told_quiet (judge q.objects (look_of c s ∷ [])) c.pos s
      level_quiet how (Input d t) r h s = absurd h
      level_quiet how (Assume e) r h s = stuck_quiet (value_of e s) _ (λ v. if_quiet (truth v) (Normal s) Stopped tt tt)
      level_quiet how (Sequence a b) r (h, ha, hb) s = then_quiet _ _ (level_quiet Anew a r ha s) (λ t. level_quiet Anew b r hb t)
      level_quiet how (If e a b) r (h, ha, hb) s =
          stuck_quiet (value_of e s) _ (λ v. if_quiet (truth v) _ _ (level_quiet Anew a r ha s) (level_quiet Anew b r hb s))
      level_quiet how (Loop at a) r (h, ha) s =
          if_quiet (over (turns_of how)) Over _ tt (then_quiet _ _ (level_quiet Anew a r ha s) (λ t. quiet.statement (Turn (suc (turns_of how))) (Loop at a) r (h, ha) t))
      level_quiet how (Block a) r (h, ha) s = block_quiet _ (level_quiet Anew a (in_block r) ha s)
      level_quiet how (Exit k) r h s = tt
      level_quiet how (Scope xs all) r (h, hi) s =
          if_quiet (are_free xs s) _ Clash (scope_quiet xs _ (caught_quiet all (in_items xs all r) hi _ (items_quiet None all (in_items xs all r) hi (enter q.objects xs s)))) tt
      level_quiet how (Switch e xs all) r (h, hi) s =
          stuck_quiet (value_of e s) _ (λ v. chosen_quiet (chosen v all) s _ (λ m. if_quiet (are_free xs s) _ Clash
          (scope_quiet xs _ (caught_quiet all (in_items xs all r) hi _ (items_quiet (Some m) all (in_items xs all r) hi (enter q.objects xs s)))) tt))
      level_quiet how (Goto l) r h s = tt
      level_quiet how (Call c) r h s = called_quiet c (slice_get q.functions c.function) s (free c.function)
      level_quiet how (Return None) r h s = tt
      level_quiet how (Return (Some e)) r h s = stuck_quiet (value_of e s) _ (λ v. tt)
      level_quiet how (Label at l) r h s = tt
      level_quiet how (Case n) r h s = tt
      level_quiet how Default r h s = tt

      items_quiet : (from : Option Mark) (all : CsStmtTrees) (r : Around) → EachItem (λ around a. IsNoInput a) r all → (s : State)
          → Quiet (items over q later from all s)
      items_quiet from none r h s = tt
      items_quiet None (more item rest) r (h, t) s = then_quiet _ _ (level_quiet Anew item r h s) (λ u. items_quiet None rest r t u)
      items_quiet (Some mark) (more item rest) r (h, t) s = items_quiet (if is_mark mark item then None else Some mark) rest r t s

  later_quiet : (n : ℕ) → QuietLater (later_by over q n)
  later_quiet zero = record { statement = λ how a r h s. tt; behind = λ mark all r h s. tt }
  later_quiet (suc n) = record {
    statement = λ how a r h s. level_quiet (later_by over q n) (later_quiet n) how a r h s;
    behind = λ mark all r h s. caught_quiet (later_by over q n) (later_quiet n) all r h _ (items_quiet (later_by over q n) (later_quiet n) (Some mark) all r h s);
  }

  main_quiet : (n : ℕ) (inputs : List _) (o : Option CsFunctionTree) → IfSome o (λ function. Each (λ around a. IsNoInput a) nothing_around function.body)
      → Quiet (or_stuck o (λ f. bounded_exec over q n f.body (first q inputs)))
  main_quiet n inputs None h = tt
  main_quiet n inputs (Some function) h = level_quiet (later_by over q n) (later_quiet n) Anew function.body nothing_around h (first q inputs)

  run_quiet : (n : ℕ) (inputs : List _) → Quiet (bounded_run over q n inputs)
  run_quiet n inputs = main_quiet n inputs (slice_get q.functions q.main) (free q.main)

pub never_waits : NeverWaits
never_waits over q fuel inputs free e = subst Quiet e (run_quiet q free over fuel inputs)
