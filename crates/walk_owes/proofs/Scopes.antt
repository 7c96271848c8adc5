-- Scopes: where objects leave, and gotos to labels among the items.
use Rattle.std.proofs.Common.{◌≡◌, ◌⊎◌, ⊎_elim, inl, inr, ℕ, zero, suc, List, [], Option, Some, None, refl, ap, ◌∙◌, subst, Bool, true, false, if◌then◌else◌}
use Rattle.c_syntax.specs.declared.alarm.Alarm.{Alarm}
use Rattle.block_mem.specs.declared.types.Value.{Value}
use Rattle.csharp.specs.Trees.{CsStmtTree, CsStmtTrees, none, more, Scope, CsProgramTree}
use Rattle.csharp.specs.Trees as trees
use Rattle.csharp.specs.States.{State}
use Rattle.csharp.specs.Actions.{are_free, enter, leave, put_into}
use Rattle.csharp.specs.Outcomes.{ByExit, ByGoto, ByReturn, Outcome, Normal, Leaves, Fails, Waiting, Stopped, Stuck, Clash, NoFuel, Over, at_scope, then_do}
use Rattle.csharp.specs.Meaning as meaning
use Rattle.csharp.specs.Meaning.{Later, Anew, AtLabel, AtCase, AtDefault, has, is_mark, items, level, later_by, caught, bounded_exec}
use Rattle.walk_owes.specs.declared.marks.Mark.{Mark}
use Rattle.walk_owes.specs.declared.marks.Mark.TheVariants as marks
use Rattle.walk_owes.specs.declared.marks.Head.{Head}
use Rattle.walk_owes.specs.declared.way.Way.{Way}
use Rattle.walk_owes.specs.declared.way.Way.TheVariants as ways
use Rattle.walk_owes.specs.declared.way.Target.{Target}
use Rattle.walk_owes.specs.declared.way.Kept.{Kept}
use Rattle.walk_owes.specs.Owes.{Covered, Grows, InSome, KeepsState, KeepsWay, Sound, returned}
use Rattle.walk_owes.specs.Items.{Begins, CoveredAll, CoveredItems, HasHead, IsPass, OnBool, PassGrows, PassesOn, Passed, SoundItems, Stays, StaysWay, mark_of}

-- what is put into a temporary stays as objects end
into_leaves : (d : Option ℕ) (v : Value) (xs : List ℕ) (s : State) → leave xs (put_into d v s) ≡ put_into d v (leave xs s)
into_leaves None v xs s = refl
into_leaves (Some d) v xs s = refl

pub returned_leaves : (to : Target) (v : Option Value) (xs : List ℕ) (s : State) → leave xs (returned to v s) ≡ returned to v (leave xs s)
returned_leaves to None xs s = into_leaves to.flag _ xs s
returned_leaves to (Some v) xs s = into_leaves to.flag _ xs (put_into to.value v s) ∙ ap (put_into to.flag _) (into_leaves to.value v xs s)

false_true : false ≡ true → ⊥
false_true e = absurd (cc)

both_ways : {b : Bool} → b ≡ false → b ≡ true → ⊥
both_ways e f = absurd (cc)

has_here : (b c : Bool) → b ≡ true → (if b then true else c) ≡ true
has_here true c e = refl
has_here false c e = absurd (false_true e)

exit_goto : (k l : ℕ) → ways.Exit k ≡ ways.Goto l → ⊥
exit_goto k l e = absurd (cc)

return_goto : (l : ℕ) → ways.Return ≡ ways.Goto l → ⊥
return_goto l e = absurd (cc)

same_goto : (all : CsStmtTrees) (l k : ℕ) → ways.Goto l ≡ ways.Goto k → has (AtLabel k) all ≡ true → has (AtLabel l) all ≡ true
same_goto all l k e h = let f : l ≡ k = cc in rw f h

-- a mark does nothing
pub mark_passes : (over : ℕ → Bool) (q : CsProgramTree) (later : Later) (mark : meaning.Mark) (item : CsStmtTree) (s : State) → is_mark mark item ≡ true
    → level over q later Anew item s ≡ Normal s
mark_passes over q later (AtLabel l) trees.Nothing s h = absurd (false_true h)
mark_passes over q later (AtLabel l) (trees.Set d e) s h = absurd (false_true h)
mark_passes over q later (AtLabel l) (trees.Load d ty e) s h = absurd (false_true h)
mark_passes over q later (AtLabel l) (trees.Store ty e f) s h = absurd (false_true h)
mark_passes over q later (AtLabel l) (trees.CopyBytes k x f) s h = absurd (false_true h)
mark_passes over q later (AtLabel l) (trees.Undefine x) s h = absurd (false_true h)
mark_passes over q later (AtLabel l) (trees.Checked c) s h = absurd (false_true h)
mark_passes over q later (AtLabel l) (trees.Input d t) s h = absurd (false_true h)
mark_passes over q later (AtLabel l) (trees.Assume e) s h = absurd (false_true h)
mark_passes over q later (AtLabel l) (trees.Sequence a b) s h = absurd (false_true h)
mark_passes over q later (AtLabel l) (trees.If e a b) s h = absurd (false_true h)
mark_passes over q later (AtLabel l) (trees.Loop at a) s h = absurd (false_true h)
mark_passes over q later (AtLabel l) (trees.Block a) s h = absurd (false_true h)
mark_passes over q later (AtLabel l) (trees.Exit k) s h = absurd (false_true h)
mark_passes over q later (AtLabel l) (trees.Scope xs all) s h = absurd (false_true h)
mark_passes over q later (AtLabel l) (trees.Switch e xs all) s h = absurd (false_true h)
mark_passes over q later (AtLabel l) (trees.Goto k) s h = absurd (false_true h)
mark_passes over q later (AtLabel l) (trees.Call c) s h = absurd (false_true h)
mark_passes over q later (AtLabel l) (trees.Return v) s h = absurd (false_true h)
mark_passes over q later (AtLabel l) (trees.Label at k) s h = refl
mark_passes over q later (AtLabel l) (trees.Case k) s h = refl
mark_passes over q later (AtLabel l) trees.Default s h = refl
mark_passes over q later (AtCase n) trees.Nothing s h = absurd (false_true h)
mark_passes over q later (AtCase n) (trees.Set d e) s h = absurd (false_true h)
mark_passes over q later (AtCase n) (trees.Load d ty e) s h = absurd (false_true h)
mark_passes over q later (AtCase n) (trees.Store ty e f) s h = absurd (false_true h)
mark_passes over q later (AtCase n) (trees.CopyBytes k x f) s h = absurd (false_true h)
mark_passes over q later (AtCase n) (trees.Undefine x) s h = absurd (false_true h)
mark_passes over q later (AtCase n) (trees.Checked c) s h = absurd (false_true h)
mark_passes over q later (AtCase n) (trees.Input d t) s h = absurd (false_true h)
mark_passes over q later (AtCase n) (trees.Assume e) s h = absurd (false_true h)
mark_passes over q later (AtCase n) (trees.Sequence a b) s h = absurd (false_true h)
mark_passes over q later (AtCase n) (trees.If e a b) s h = absurd (false_true h)
mark_passes over q later (AtCase n) (trees.Loop at a) s h = absurd (false_true h)
mark_passes over q later (AtCase n) (trees.Block a) s h = absurd (false_true h)
mark_passes over q later (AtCase n) (trees.Exit k) s h = absurd (false_true h)
mark_passes over q later (AtCase n) (trees.Scope xs all) s h = absurd (false_true h)
mark_passes over q later (AtCase n) (trees.Switch e xs all) s h = absurd (false_true h)
mark_passes over q later (AtCase n) (trees.Goto k) s h = absurd (false_true h)
mark_passes over q later (AtCase n) (trees.Call c) s h = absurd (false_true h)
mark_passes over q later (AtCase n) (trees.Return v) s h = absurd (false_true h)
mark_passes over q later (AtCase n) (trees.Label at k) s h = refl
mark_passes over q later (AtCase n) (trees.Case k) s h = refl
mark_passes over q later (AtCase n) trees.Default s h = refl
mark_passes over q later AtDefault trees.Nothing s h = absurd (false_true h)
mark_passes over q later AtDefault (trees.Set d e) s h = absurd (false_true h)
mark_passes over q later AtDefault (trees.Load d ty e) s h = absurd (false_true h)
mark_passes over q later AtDefault (trees.Store ty e f) s h = absurd (false_true h)
mark_passes over q later AtDefault (trees.CopyBytes k x f) s h = absurd (false_true h)
mark_passes over q later AtDefault (trees.Undefine x) s h = absurd (false_true h)
mark_passes over q later AtDefault (trees.Checked c) s h = absurd (false_true h)
mark_passes over q later AtDefault (trees.Input d t) s h = absurd (false_true h)
mark_passes over q later AtDefault (trees.Assume e) s h = absurd (false_true h)
mark_passes over q later AtDefault (trees.Sequence a b) s h = absurd (false_true h)
mark_passes over q later AtDefault (trees.If e a b) s h = absurd (false_true h)
mark_passes over q later AtDefault (trees.Loop at a) s h = absurd (false_true h)
mark_passes over q later AtDefault (trees.Block a) s h = absurd (false_true h)
mark_passes over q later AtDefault (trees.Exit k) s h = absurd (false_true h)
mark_passes over q later AtDefault (trees.Scope xs all) s h = absurd (false_true h)
mark_passes over q later AtDefault (trees.Switch e xs all) s h = absurd (false_true h)
mark_passes over q later AtDefault (trees.Goto k) s h = absurd (false_true h)
mark_passes over q later AtDefault (trees.Call c) s h = absurd (false_true h)
mark_passes over q later AtDefault (trees.Return v) s h = absurd (false_true h)
mark_passes over q later AtDefault (trees.Label at k) s h = refl
mark_passes over q later AtDefault (trees.Case k) s h = refl
mark_passes over q later AtDefault trees.Default s h = refl

module _ {M : Type 0} (stands : M → State → Type 0) (q : CsProgramTree) (to : Target) where
  pub covered_scope : (xs : List ℕ) (mid after : Option M) (inner kept : List (Kept M)) (out : List Alarm)
      → ((s : State) → InSome stands mid s → InSome stands after (leave xs s))
      → ((w : Way) (s : State) → KeepsState stands inner w s → KeepsState stands kept w (leave xs s))
      → (o : Outcome) → Covered stands q to mid inner out o → Covered stands q to after kept out (at_scope xs o)
  covered_scope xs mid after inner kept out f g (Normal s) h = f s h
  covered_scope xs mid after inner kept out f g (Leaves (ByExit k) s) h = g (ways.Exit k) s h
  covered_scope xs mid after inner kept out f g (Leaves (ByGoto l) s) h = g (ways.Goto l) s h
  covered_scope xs mid after inner kept out f g (Leaves (ByReturn v) s) h =
      subst (KeepsState stands kept ways.Return) (returned_leaves to v xs s) (g ways.Return (returned to v s) h)
  covered_scope xs mid after inner kept out f g (Fails c at k x m) h = h
  covered_scope xs mid after inner kept out f g Waiting h = tt
  covered_scope xs mid after inner kept out f g Stopped h = tt
  covered_scope xs mid after inner kept out f g Stuck h = tt
  covered_scope xs mid after inner kept out f g Clash h = tt
  covered_scope xs mid after inner kept out f g NoFuel h = tt
  covered_scope xs mid after inner kept out f g Over h = tt

  pub covered_free : (b : Bool) (xs : List ℕ) (after : Option M) (kept : List (Kept M)) (out : List Alarm) (o : Outcome)
      → (b ≡ true → Covered stands q to after kept out (at_scope xs o)) → Covered stands q to after kept out (if b then at_scope xs o else Clash)
  covered_free true xs after kept out o f = f refl
  covered_free false xs after kept out o f = tt

  -- a scope, by what its items come to
  pub scope_sound : (xs : List ℕ) (all : CsStmtTrees) (before entered : M) (mid after : Option M) (inner kept : List (Kept M)) (out : List Alarm)
      → ((s : State) → are_free xs s ≡ true → stands before s → stands entered (enter q.objects xs s))
      → CoveredAll stands q to all (λ from s. (from ≡ None) × stands entered s) mid inner out
      → ((s : State) → InSome stands mid s → InSome stands after (leave xs s))
      → ((w : Way) (s : State) → KeepsState stands inner w s → KeepsState stands kept w (leave xs s))
      → Sound stands q to (Scope xs all) (Some before) after kept out
  scope_sound xs all before entered mid after inner kept out e x f g = record {
    by = λ over n s h. covered_free (are_free xs s) xs after kept out (caught (later_by over q n) all (items over q (later_by over q n) None all (enter q.objects xs s)))
        (λ i. covered_scope xs mid after inner kept out f g (caught (later_by over q n) all (items over q (later_by over q n) None all (enter q.objects xs s)))
        (x over n None (enter q.objects xs s) (refl, e s i h)));
  }

  -- ---- passes

  still_on : (gone went kept big : List (Kept M)) → ((w : Way) (s : State) → KeepsState stands gone w s → KeepsState stands went w s)
      → ((w : Way) (s : State) → KeepsState stands kept w s → Stays stands went big w s)
      → (w : Way) (s : State) → Stays stands gone kept w s → Stays stands went big w s
  still_on gone went kept big f g (ways.Exit k) s h = g (ways.Exit k) s h
  still_on gone went kept big f g (ways.Goto l) s h = ⊎_elim (λ a. inl (f (ways.Goto l) s a)) (λ b. g (ways.Goto l) s b) h
  still_on gone went kept big f g ways.Return s h = g ways.Return s h

  pub kept_stays : (gone kept : List (Kept M)) (w : Way) (s : State) → KeepsState stands kept w s → Stays stands gone kept w s
  kept_stays gone kept (ways.Exit k) s h = h
  kept_stays gone kept (ways.Goto l) s h = inr h
  kept_stays gone kept ways.Return s h = h

  way_stays : (went kept big : List (Kept M)) → ((w : Way) (s : State) → KeepsState stands kept w s → Stays stands went big w s)
      → (w : _) (s : State) → KeepsWay stands to kept w s → StaysWay stands to went big w s
  way_stays went kept big g (ByExit k) s h = g (ways.Exit k) s h
  way_stays went kept big g (ByGoto l) s h = g (ways.Goto l) s h
  way_stays went kept big g (ByReturn v) s h = g ways.Return (returned to v s) h

  -- an item, and the items behind it
  passed_then : (mid after : Option M) (gone kept went big : List (Kept M)) (out later : List Alarm) (go : State → Outcome)
      → PassGrows stands q gone kept out went big later
      → ((s : State) → InSome stands mid s → Passed stands q to went after big later (go s))
      → (o : Outcome) → Covered stands q to mid kept out o → Passed stands q to went after big later (then_do o go)
  passed_then mid after gone kept went big out later go g f (Normal s) h = f s h
  passed_then mid after gone kept went big out later go g f (Leaves w s) h = way_stays went kept big g.stays w s h
  passed_then mid after gone kept went big out later go g f (Fails c at k x m) h = g.lists c at k x m h
  passed_then mid after gone kept went big out later go g f Waiting h = tt
  passed_then mid after gone kept went big out later go g f Stopped h = tt
  passed_then mid after gone kept went big out later go g f Stuck h = tt
  passed_then mid after gone kept went big out later go g f Clash h = tt
  passed_then mid after gone kept went big out later go g f NoFuel h = tt
  passed_then mid after gone kept went big out later go g f Over h = tt

  -- no items
  pub no_items : (heads : List (Head M)) (flow : Option M) (gone kept : List (Kept M)) (out : List Alarm)
      → SoundItems stands q to none heads flow gone flow gone kept out
  no_items heads flow gone kept out = record {
    flows = λ over n s h. h;
    enters = λ over n mark s h e. absurd (false_true e);
    jumps = λ l s h. inl h;
  }

  pub none_grow : (gone kept : List (Kept M)) (out : List Alarm) → PassGrows stands q gone kept out gone kept out
  none_grow gone kept out = record { gone_on = λ w s h. h; stays = λ w s h. kept_stays gone kept w s h; lists = λ c at k x m h. h }

  pub pass_grows : (gone g1 g3 kept k1 k2 k3 : List (Kept M)) (o o2 o3 : List Alarm)
      → ((w : Way) (s : State) → KeepsState stands gone w s → KeepsState stands g1 w s)
      → ((w : Way) (s : State) → KeepsState stands kept w s → Stays stands g1 k1 w s)
      → Grows stands q k1 o k2 o2 → PassGrows stands q g1 k2 o2 g3 k3 o3 → PassGrows stands q gone kept o g3 k3 o3
  pass_grows gone g1 g3 kept k1 k2 k3 o o2 o3 f g x y = record {
    gone_on = λ w s h. y.gone_on w s (f w s h);
    stays = λ w s h. still_on g1 g3 k2 k3 y.gone_on y.stays w s (still_on g1 g1 k1 k2 (λ v t i. i) (λ v t i. kept_stays g1 k2 v t (x.keeps v t i)) w s (g w s h));
    lists = λ c at k x1 m h. y.lists c at k x1 m (x.lists c at k x1 m h);
  }

  enter_at : (over : ℕ → Bool) (n : ℕ) (m : meaning.Mark) (rest : CsStmtTrees) (went : List (Kept M)) (after : Option M) (more1 : List (Kept M)) (later : List Alarm)
      (s : State) (b : Bool) → (b ≡ true → Passed stands q to went after more1 later (items over q (later_by over q n) None rest s))
      → (b ≡ false → has m rest ≡ true → Passed stands q to went after more1 later (items over q (later_by over q n) (Some m) rest s))
      → (if b then true else has m rest) ≡ true → Passed stands q to went after more1 later (items over q (later_by over q n) (if b then None else Some m) rest s)
  enter_at over n m rest went after more1 later s true f g e = f refl
  enter_at over n m rest went after more1 later s false f g e = g refl e

  has_at : (b c : Bool) → c ≡ true → (if b then true else c) ≡ true
  has_at true c e = refl
  has_at false c e = e

  -- an item before items
  pub more_items : (item : CsStmtTree) (rest : CsStmtTrees) (heads : List (Head M)) (flow f1 f2 after : Option M) (gone g1 g3 k2 k3 : List (Kept M)) (o2 o3 : List Alarm)
      → ((l : ℕ) → is_mark (AtLabel l) item ≡ true → has (AtLabel l) rest ≡ false)
      → ((s : State) → InSome stands flow s → InSome stands f1 s)
      → ((mark : Mark) (s : State) → HasHead stands heads mark s → is_mark (mark_of mark) item ≡ true → InSome stands f1 s)
      → ((l : ℕ) (s : State) → KeepsState stands g1 (ways.Goto l) s → KeepsState stands gone (ways.Goto l) s ⊎ ((is_mark (AtLabel l) item ≡ true) × InSome stands f1 s))
      → Sound stands q to item f1 f2 k2 o2 → SoundItems stands q to rest heads f2 g1 after g3 k3 o3 → PassGrows stands q g1 k2 o2 g3 k3 o3
      → SoundItems stands q to (more item rest) heads flow gone after g3 k3 o3
  more_items item rest heads flow f1 f2 after gone g1 g3 k2 k3 o2 o3 apart flows heads_in came x y g =
      let behind : (m : meaning.Mark) (over : ℕ → Bool) (n : ℕ) (s : State) → is_mark m item ≡ true → InSome stands f1 s
      → Passed stands q to g3 after k3 o3 (items over q (later_by over q n) None rest s) =
      λ m over n s e h. y.flows over n s (subst (Covered stands q to f2 k2 o2) (mark_passes over q (later_by over q n) m item s e) (x.by over n s h)) in
      record {
        flows = λ over n s h. passed_then f2 after g1 k2 g3 k3 o2 o3 (λ t. items over q (later_by over q n) None rest t) g (λ t i. y.flows over n t i)
            (bounded_exec over q n item s) (x.by over n s (flows s h));
        enters = λ over n mark s h e. enter_at over n (mark_of mark) rest g3 after k3 o3 s (is_mark (mark_of mark) item)
            (λ b. behind (mark_of mark) over n s b (heads_in mark s h b)) (λ b i. y.enters over n mark s h i) e;
        jumps = λ l s h. ⊎_elim
            (λ a. ⊎_elim inl (λ b. inr (
              has_here (is_mark (AtLabel l) item) (has (AtLabel l) rest) b.0,
              λ over n. enter_at over n (AtLabel l) rest g3 after k3 o3 s (is_mark (AtLabel l) item) (λ c. behind (AtLabel l) over n s c b.1)
                  (λ c i. absurd (both_ways c b.0)) (has_here (is_mark (AtLabel l) item) (has (AtLabel l) rest) b.0),
            )) (came l s a))
            (λ a. inr (
              has_at (is_mark (AtLabel l) item) (has (AtLabel l) rest) a.0,
              λ over n. enter_at over n (AtLabel l) rest g3 after k3 o3 s (is_mark (AtLabel l) item) (λ c. absurd (both_ways (apart l c) a.0))
                  (λ c i. a.1 over n) (has_at (is_mark (AtLabel l) item) (has (AtLabel l) rest) a.0),
            ))
            (y.jumps l s h);
      }

  -- ---- items one by one

  pub passes_begin : (all : CsStmtTrees) (heads : List (Head M)) (flow : Option M) (gone kept : List (Kept M)) (out : List Alarm)
      → PassesOn stands q to all all heads flow gone flow gone kept out
  passes_begin all heads flow gone kept out = record { by = λ after went big later x g. x }

  pub passes_more : (all : CsStmtTrees) (item : CsStmtTree) (rest : CsStmtTrees) (heads : List (Head M)) (start flow f1 f2 : Option M)
      (before gone g1 kept k1 k2 : List (Kept M)) (o o2 : List Alarm)
      → PassesOn stands q to all (more item rest) heads start before flow gone kept o
      → ((l : ℕ) → is_mark (AtLabel l) item ≡ true → has (AtLabel l) rest ≡ false)
      → ((s : State) → InSome stands flow s → InSome stands f1 s)
      → ((mark : Mark) (s : State) → HasHead stands heads mark s → is_mark (mark_of mark) item ≡ true → InSome stands f1 s)
      → ((l : ℕ) (s : State) → KeepsState stands g1 (ways.Goto l) s → KeepsState stands gone (ways.Goto l) s ⊎ ((is_mark (AtLabel l) item ≡ true) × InSome stands f1 s))
      → ((w : Way) (s : State) → KeepsState stands gone w s → KeepsState stands g1 w s)
      → ((w : Way) (s : State) → KeepsState stands kept w s → Stays stands g1 k1 w s)
      → Sound stands q to item f1 f2 k2 o2 → Grows stands q k1 o k2 o2 → PassesOn stands q to all rest heads start before f2 g1 k2 o2
  passes_more all item rest heads start flow f1 f2 before gone g1 kept k1 k2 o o2 p apart flows heads_in came on stays x g = record {
    by = λ after went big later y h. p.by after went big later
        (more_items item rest heads flow f1 f2 after gone g1 went k2 big o2 later apart flows heads_in came x y h)
        (pass_grows gone g1 went kept k1 k2 big o o2 later on stays g h);
  }

  pub passes_end : (all : CsStmtTrees) (heads : List (Head M)) (start flow : Option M) (before gone kept : List (Kept M)) (out : List Alarm)
      → PassesOn stands q to all none heads start before flow gone kept out → SoundItems stands q to all heads start before flow gone kept out
  passes_end all heads start flow before gone kept out p = p.by flow gone kept out (no_items heads flow gone kept out) (none_grow gone kept out)

  module _ (all : CsStmtTrees) (At : ℕ → State → Type 0) (after : Option M) (kept : List (Kept M)) (out : List Alarm) where
    goto_at : (later : Later) (l : ℕ) (s : State) (b : Bool) → has (AtLabel l) all ≡ b
        → (has (AtLabel l) all ≡ true → At l s → Covered stands q to after kept out (later.items (AtLabel l) all s))
        → OnBool b (At l s) (KeepsState stands kept (ways.Goto l) s)
        → Covered stands q to after kept out (if b then later.items (AtLabel l) all s else Leaves (ByGoto l) s)
    goto_at later l s true e f h = f e h
    goto_at later l s false e f h = h

    caught_at : (later : Later)
        → ((l : ℕ) (s : State) → has (AtLabel l) all ≡ true → At l s → Covered stands q to after kept out (later.items (AtLabel l) all s))
        → (o : Outcome) → CoveredItems stands q to all At after kept out o → Covered stands q to after kept out (caught later all o)
    caught_at later f (Leaves (ByGoto l) s) h = goto_at later l s (has (AtLabel l) all) refl (f l s) h
    caught_at later f (Leaves (ByExit k) s) h = h
    caught_at later f (Leaves (ByReturn v) s) h = h
    caught_at later f (Normal s) h = h
    caught_at later f (Fails c at k x m) h = h
    caught_at later f Waiting h = tt
    caught_at later f Stopped h = tt
    caught_at later f Stuck h = tt
    caught_at later f Clash h = tt
    caught_at later f NoFuel h = tt
    caught_at later f Over h = tt

    covers : (Entry : Option meaning.Mark → State → Type 0) → IsPass stands q to all Entry At after kept out → (over : ℕ → Bool) (n : ℕ) (o : Outcome)
        → CoveredItems stands q to all At after kept out o → Covered stands q to after kept out (caught (later_by over q n) all o)
    covers Entry p over zero o h = caught_at (later_by over q zero) (λ l s e i. tt) o h
    covers Entry p over (suc m) o h = caught_at (later_by over q (suc m))
        (λ l s e i. covers Entry p over m (items over q (later_by over q m) (Some (AtLabel l)) all s) (p.jumped over m l s e i)) o h

    -- one closed pass covers every run of the items, with all their gotos, forward and back
    pub pass_covers : (Entry : Option meaning.Mark → State → Type 0) → IsPass stands q to all Entry At after kept out → CoveredAll stands q to all Entry after kept out
    pass_covers Entry p over n from s e =
        covers Entry p over n (items over q (later_by over q n) from all s) (p.entered over n from s e)

  -- ---- a closed pass

  way_covered : (all : CsStmtTrees) (heads : List (Head M)) (flow after : Option M) (gone kept left : List (Kept M)) (out : List Alarm)
      → SoundItems stands q to all heads flow [] after gone kept out
      → ((l : ℕ) (s : State) → has (AtLabel l) all ≡ true → KeepsState stands kept (ways.Goto l) s → HasHead stands heads (marks.Label l) s)
      → ((w : Way) (s : State) → KeepsState stands kept w s → KeepsState stands left w s ⊎ ((l : ℕ) × (w ≡ ways.Goto l) × (has (AtLabel l) all ≡ true)))
      → (l : ℕ) (s : State) (b : Bool) → has (AtLabel l) all ≡ b → Stays stands gone kept (ways.Goto l) s
      → OnBool b (KeepsState stands gone (ways.Goto l) s ⊎ HasHead stands heads (marks.Label l) s) (KeepsState stands left (ways.Goto l) s)
  way_covered all heads flow after gone kept left out x closed rest l s true e h = ⊎_elim inl (λ k. inr (closed l s e k)) h
  way_covered all heads flow after gone kept left out x closed rest l s false e h =
      ⊎_elim (λ g. ⊎_elim absurd (λ r. absurd (both_ways e r.0)) (x.jumps l s g))
      (λ k. ⊎_elim (λ r. r) (λ r. absurd (both_ways e (same_goto all l r.0 r.1 r.2))) (rest (ways.Goto l) s k)) h

  other_way : (all : CsStmtTrees) (w : Way) → ((l : ℕ) → w ≡ ways.Goto l → ⊥) → (A : Type 0)
      → A ⊎ ((l : ℕ) × (w ≡ ways.Goto l) × (has (AtLabel l) all ≡ true)) → A
  other_way all w f A h = ⊎_elim (λ a. a) (λ r. absurd (f r.0 r.1)) h

  passed_covered : (all : CsStmtTrees) (heads : List (Head M)) (flow after : Option M) (gone kept left : List (Kept M)) (out : List Alarm)
      → SoundItems stands q to all heads flow [] after gone kept out
      → ((l : ℕ) (s : State) → has (AtLabel l) all ≡ true → KeepsState stands kept (ways.Goto l) s → HasHead stands heads (marks.Label l) s)
      → ((w : Way) (s : State) → KeepsState stands kept w s → KeepsState stands left w s ⊎ ((l : ℕ) × (w ≡ ways.Goto l) × (has (AtLabel l) all ≡ true)))
      → (o : Outcome) → Passed stands q to gone after kept out o
      → CoveredItems stands q to all (λ l s. KeepsState stands gone (ways.Goto l) s ⊎ HasHead stands heads (marks.Label l) s) after left out o
  passed_covered all heads flow after gone kept left out x closed rest (Leaves (ByGoto l) s) h =
      way_covered all heads flow after gone kept left out x closed rest l s (has (AtLabel l) all) refl h
  passed_covered all heads flow after gone kept left out x closed rest (Leaves (ByExit k) s) h =
      other_way all (ways.Exit k) (λ l e. exit_goto k l e) (KeepsState stands left (ways.Exit k) s) (rest (ways.Exit k) s h)
  passed_covered all heads flow after gone kept left out x closed rest (Leaves (ByReturn v) s) h =
      other_way all ways.Return (λ l e. return_goto l e) (KeepsState stands left ways.Return (returned to v s)) (rest ways.Return (returned to v s) h)
  passed_covered all heads flow after gone kept left out x closed rest (Normal s) h = h
  passed_covered all heads flow after gone kept left out x closed rest (Fails c at k y m) h = h
  passed_covered all heads flow after gone kept left out x closed rest Waiting h = tt
  passed_covered all heads flow after gone kept left out x closed rest Stopped h = tt
  passed_covered all heads flow after gone kept left out x closed rest Stuck h = tt
  passed_covered all heads flow after gone kept left out x closed rest Clash h = tt
  passed_covered all heads flow after gone kept left out x closed rest NoFuel h = tt
  passed_covered all heads flow after gone kept left out x closed rest Over h = tt

  begun : (all : CsStmtTrees) (heads : List (Head M)) (flow after : Option M) (gone kept : List (Kept M)) (out : List Alarm)
      → SoundItems stands q to all heads flow [] after gone kept out → (over : ℕ → Bool) (n : ℕ) (from : Option meaning.Mark) (s : State)
      → Begins stands all heads flow from s → Passed stands q to gone after kept out (items over q (later_by over q n) from all s)
  begun all heads flow after gone kept out x over n None s h = x.flows over n s h
  begun all heads flow after gone kept out x over n (Some m) s h =
      rw h.1 (x.enters over n h.0 s h.2 (rw h.1 at h.3))

  -- a pass whose jumps back are in the heads covers all runs; jumps to labels of these items may be let go
  pub closed_pass : (all : CsStmtTrees) (heads : List (Head M)) (flow after : Option M) (gone kept left : List (Kept M)) (out : List Alarm)
      → SoundItems stands q to all heads flow [] after gone kept out
      → ((l : ℕ) (s : State) → has (AtLabel l) all ≡ true → KeepsState stands kept (ways.Goto l) s → HasHead stands heads (marks.Label l) s)
      → ((w : Way) (s : State) → KeepsState stands kept w s → KeepsState stands left w s ⊎ ((l : ℕ) × (w ≡ ways.Goto l) × (has (AtLabel l) all ≡ true)))
      → CoveredAll stands q to all (Begins stands all heads flow) after left out
  closed_pass all heads flow after gone kept left out x closed rest =
      let turn : (o : Outcome) → Passed stands q to gone after kept out o
      → CoveredItems stands q to all (λ l s. KeepsState stands gone (ways.Goto l) s ⊎ HasHead stands heads (marks.Label l) s) after left out o =
      passed_covered all heads flow after gone kept left out x closed rest in
      pass_covers all (λ l s. KeepsState stands gone (ways.Goto l) s ⊎ HasHead stands heads (marks.Label l) s) after left out (Begins stands all heads flow)
      (record {
        entered = λ over n from s h. turn (items over q (later_by over q n) from all s) (begun all heads flow after gone kept out x over n from s h);
        jumped = λ over n l s e h. turn (items over q (later_by over q n) (Some (AtLabel l)) all s)
            (⊎_elim (λ g. ⊎_elim absurd (λ r. r.1 over n) (x.jumps l s g)) (λ k. x.enters over n (marks.Label l) s k e) h);
      })
