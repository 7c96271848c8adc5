-- The machine follows the items of a block, from its start or from a mark on, its gotos back into it, and its end.
use Rattle.std.proofs.Common.{◌≡◌, ℕ, zero, suc, ◌*◌, ◌≤◌, List, ◌∷◌, length, Option, Some, None, refl, sym, ◌∙◌, ap, subst, Bool, true, false, arith}
use Rattle.std.specs.Prelude.{if◌then◌else◌}
use Rattle.c_syntax_written.specs.declared.place.Pos.{Pos}
use Rattle.c_syntax.specs.declared.program.Plan.{Plan}
use Rattle.c_syntax.specs.TypedStmt as c
use Rattle.c_syntax.specs.TypedStmt.{TStmtTree, TStmtTrees}
use Rattle.c_syntax.specs.Program.{TProgramTree}
use Rattle.c_layout.specs.RowTypes.{is_void}
use Rattle.block_mem.specs.declared.types.Value.{Value}
use Rattle.c_objects.specs.Opening.{open_all}
use Rattle.c_steps.specs.Work.{Item, Do, Close, SwitchEnd, Drop}
use Rattle.c_steps.specs.States.{Held, State, state, Goes, Next, goes, held}
use Rattle.c_steps.specs.Marks as marks
use Rattle.c_steps.specs.Marks.{does, does_nothing}
use Rattle.c_steps.specs.Statements.{select_step}
use Rattle.c_steps.specs.Steps.{step}
use Rattle.c_steps.specs.Runs.{calls_in}
use Rattle.c_steps_laws.specs.Fits.{Fits, Runs}
use Rattle.c_steps_laws.specs.Wants.{Want}
use Rattle.c_steps_laws.proofs.NeededRuns.{steps_keep_fitting}
use Rattle.csharp.specs.Trees as code
use Rattle.csharp.specs.Trees.{CsExprTree, CsStmtTree, CsStmtTrees}
use Rattle.csharp.specs.States as low
use Rattle.csharp.specs.States.{value_of}
use Rattle.csharp.specs.Actions.{enter, leave, are_free}
use Rattle.csharp.specs.Outcomes.{Way, ByGoto, Outcome, Normal, Leaves, Clash, then_do, at_scope, at_block}
use Rattle.csharp.specs.Meaning as meaning
use Rattle.csharp.specs.Meaning.{Later, caught, later_by, bounded_exec, within, where_chosen}
use Rattle.csharp_laws.specs.LeftAlone.{IsBehind}
use Rattle.csharp_typed_laws.proofs.Counts.{counts_stay}
use Rattle.lower_trees.specs.LowerStmt.{Context, InSwitch, lower_stmt, lower_items}
use Rattle.lower_trees.specs.LowerProgram.{lower}
use Rattle.lower_rows.proofs.Steps.{Leads, Follows, one, follows_after, follows_step, follows_then, follows_map, fits_leads}
use Rattle.lower_rows.proofs.Rows.{RestGoal, ValueGoal, ValueFollows, no_way}
use Rattle.lower_formed.proofs.Placing.{Bodied}
use Rattle.lower_quiet.proofs.Callees.{base}
use Rattle.lower_exprs_run.proofs.Held.{HeldGoal, HeldFollows}
use Rattle.lower_stmts_run.proofs.Ways.{way_in, does_chain, Done, Inside, past_does, caught_follows, scope_follows, switch_block}
use Rattle.lower_stmts_run.proofs.Marks as kept
use Rattle.lower_stmts_run.proofs.Marks.{low_mark, low_entry}

pub same_le : (k : ℕ) → k ≤ k
same_le k = omega arith

module _ (over : ℕ → Bool) (p : TProgramTree) (plan : Plan) (runs : Runs p plan) (f : ℕ) (b : Bodied p f) (rows : ℕ) where
  -- the first row of the function's own
  abbrev pub own : ℕ
  own = base p plan runs f b

  abbrev pub void : Bool
  void = is_void b.function.result

  -- as many temporaries as the function uses
  abbrev pub Room : low.State → Type 0
  Room l = 12 * rows ≤ length l.temps

  abbrev pub later : ℕ → Later
  later n = later_by over (lower p plan) n

  abbrev pub run : ℕ → CsStmtTree → low.State → Outcome
  run n a l = bounded_exec over (lower p plan) n a l

  -- items in their order
  abbrev pub in_order : ℕ → CsStmtTrees → low.State → Outcome
  in_order n all l = meaning.items over (lower p plan) (later n) None all l

  -- the machine follows the code of a statement, with so much fuel, from the state in which the statement is next
  abbrev pub StmtSim : ℕ → Context → TStmtTree → Type 0
  StmtSim n k a = (w : List Item) (s : List Held) (l : low.State) → Room l → Fits p (state (Do a ∷ w) s l.memory l.inputs)
      → Done over p void n k (state (Do a ∷ w) s l.memory l.inputs) w s (run n (lower_stmt p own k a).code l)

  -- and that of each of these
  abbrev pub AllItems : ℕ → Context → TStmtTrees → Type 0
  AllItems n k c.none = Unit {0}
  AllItems n k (c.more item rest) = StmtSim n k item × AllItems n k rest

  -- ---- what each step keeps

  pub keeps : (s t : State) → Fits p s → step p s ≡ Goes t → Fits p t
  keeps s t h e = steps_keep_fitting p plan runs.typed runs.planned s t h e

  pub reached : (s t : State) → Leads p s t → Fits p s → Fits p t
  reached s t l h = fits_leads p keeps s t l h

  pub room_after : (n : ℕ) (a : CsStmtTree) (l t : low.State) → run n a l ≡ Normal t → Room l → Room t
  room_after n a l t is room =
      let same = counts_stay over (lower p plan) n a l t (subst (λ (o : Outcome). IsBehind o t) (sym is) refl) in omega (arith, same, room)

  pub room_left : (n : ℕ) (a : CsStmtTree) (l t : low.State) (x : Way) → run n a l ≡ Leaves x t → Room l → Room t
  room_left n a l t x is room =
      let same = counts_stay over (lower p plan) n a l t (subst (λ (o : Outcome). IsBehind o t) (sym is) refl) in omega (arith, same, room)

  count_case : (n : ℕ) (a : CsStmtTree) (rest : CsStmtTrees) (l t : low.State) (o : Outcome) → run n a l ≡ o
      → ((r : low.State) → IsBehind (in_order n rest r) t → length t.temps ≡ length r.temps) → IsBehind (then_do o (λ r. in_order n rest r)) t → length t.temps ≡ length l.temps
  count_case n a rest l t (Normal r) is h g = h r g ∙ counts_stay over (lower p plan) n a l r (subst (λ (o : Outcome). IsBehind o r) (sym is) refl)
  count_case n a rest l t (Leaves x r) is h g = counts_stay over (lower p plan) n a l t (subst (λ (o : Outcome). IsBehind o t) (sym is) g)
  count_case n a rest l t o is h g = absurd g

  items_count : (n : ℕ) (from : Option meaning.Mark) (all : CsStmtTrees) (l t : low.State) → IsBehind (meaning.items over (lower p plan) (later n) from all l) t → length t.temps ≡ length l.temps
  items_count n None code.none l t h = ap (λ (x : low.State). length x.temps) (sym h)
  items_count n (Some m) code.none l t h = ap (λ (x : low.State). length x.temps) (sym h)
  items_count n None (code.more item rest) l t h = count_case n item rest l t (run n item l) refl (λ r g. items_count n None rest r t g) h
  items_count n (Some m) (code.more item rest) l t h = items_count n (if meaning.is_mark m item then None else Some m) rest l t h

  items_left : (n : ℕ) (from : Option meaning.Mark) (all : CsStmtTrees) (l t : low.State) (x : Way) → meaning.items over (lower p plan) (later n) from all l ≡ Leaves x t → Room l → Room t
  items_left n from all l t x is room =
      let same = items_count n from all l t (subst (λ (o : Outcome). IsBehind o t) (sym is) refl) in omega (arith, same, room)

  pub items_room : (n : ℕ) (all : CsStmtTrees) (l t : low.State) → in_order n all l ≡ Normal t → Room l → Room t
  items_room n all l t is room =
      let same = items_count n None all l t (subst (λ (o : Outcome). IsBehind o t) (sym is) refl) in omega (arith, same, room)

  -- ---- steps, values, and what comes behind

  pub done_after : (n : ℕ) (k : Context) (s0 s1 : State) (w : List Item) (s : List Held) (o : Outcome) → step p s0 ≡ Goes s1 → Fits p s0 → (Fits p s1 → Done over p void n k s1 w s o) → Done over p void n k s0 w s o
  done_after n k s0 s1 w s o e fits g = follows_after over p n s0 s1 (calls_in w) (RestGoal w s) (way_in void k w s) o (one p s0 s1 e) (g (keeps s0 s1 fits e))

  pub value_on : (n : ℕ) (s0 : State) (w : List Item) (s : List Held) (a : CsExprTree) (o : Outcome) (go : low.State → Outcome) (chain : List Pos)
      (goal : low.State → State → Type 0) (way : Way → low.State → Option Next) → Fits p s0 → calls_in w ≡ chain → ValueFollows over p n s0 w s a o
      → ((t : low.State) → o ≡ Normal t → (v : Value) → value_of a t ≡ Some v → Fits p (state w (held v ∷ s) t.memory t.inputs)
      → Follows over p n (state w (held v ∷ s) t.memory t.inputs) chain goal way (go t))
      → Follows over p n s0 chain goal way (then_do o go)
  value_on n s0 w s a o go chain goal way fits e h g =
      follows_then over p n s0 chain (ValueGoal a w s) goal no_way way o go (subst (λ k. Follows over p n s0 k (ValueGoal a w s) no_way o) e h)
      (λ t u is leads k. subst (λ x. Follows over p n x chain goal way (go t)) (sym k.2)
      (g t is k.0 k.1 (subst (λ x. Fits p x) k.2 (reached s0 u leads fits)))) (λ k t x. absurd x)

  -- what an expression gives is dropped
  pub dropped : (n : ℕ) (s0 : State) (w : List Item) (s : List Held) (want : Want) (a : CsExprTree) (way : Way → low.State → Option Next) (o : Outcome)
      → HeldFollows over p n s0 (Drop ∷ w) s want a o → Follows over p n s0 (calls_in w) (RestGoal w s) way o
  dropped n s0 w s want a way o h =
      follows_map over p n s0 (calls_in w) (HeldGoal want a (Drop ∷ w) s) (RestGoal w s) no_way way o h
      (λ t u l g. (state w s t.memory t.inputs, one p u _ (subst (λ x. step p x ≡ goes w s t.memory t.inputs) (sym g.2) refl), refl)) (λ k t x. absurd x)

  -- ---- items

  one_item : (n : ℕ) (k : Context) (item : TStmtTree) (rest : TStmtTrees) (z : Bool) → does_nothing item ≡ z → StmtSim n k item → (w : List Item) (s : List Held) (l : low.State) (go : low.State → Outcome) → Room l
      → Fits p (state (if z then does rest w else Do item ∷ does rest w) s l.memory l.inputs)
      → ((t : low.State) → Room t → Fits p (state (does rest w) s t.memory t.inputs) → Done over p void n k (state (does rest w) s t.memory t.inputs) w s (go t))
      → Done over p void n k (state (if z then does rest w else Do item ∷ does rest w) s l.memory l.inputs) w s (then_do (run n (lower_stmt p own k item).code l) go)
  one_item n k item rest true e h w s l go room fits g =
      subst (λ o. Done over p void n k (state (does rest w) s l.memory l.inputs) w s (then_do o go)) (sym (kept.nothing_done p own k over (lower p plan) (later n) item l e)) (g l room fits)
  one_item n k item rest false e h w s l go room fits g =
      let s0 = state (Do item ∷ does rest w) s l.memory l.inputs in
      follows_then over p n s0 (calls_in w) (RestGoal (does rest w) s) (RestGoal w s) (way_in void k (does rest w) s) (way_in void k w s) (run n (lower_stmt p own k item).code l) go
      (subst (λ chain. Follows over p n s0 chain (RestGoal (does rest w) s) (way_in void k (does rest w) s) (run n (lower_stmt p own k item).code l)) (does_chain rest w) (h (does rest w) s l room fits))
      (λ t u is leads e. subst (λ x. Done over p void n k x w s (go t)) (sym e)
      (g t (room_after n (lower_stmt p own k item).code l t is room) (subst (λ x. Fits p x) e (reached s0 u leads fits))))
      (λ x t h. past_does over p void k rest w s s0 x t h)

  pub items_follow : (n : ℕ) (k : Context) (items : TStmtTrees) → AllItems n k items → (w : List Item) (s : List Held) (l : low.State) → Room l → Fits p (state (does items w) s l.memory l.inputs)
      → Done over p void n k (state (does items w) s l.memory l.inputs) w s (in_order n (lower_items p own k items).items l)
  items_follow n k c.none h w s l room fits = (_, (0, refl), refl)
  items_follow n k (c.more item rest) h w s l room fits =
      one_item n k item rest (does_nothing item) refl h.0 w s l (λ t. in_order n (lower_items p own k rest).items t) room fits (λ t more fit. items_follow n k rest h.1 w s t more fit)

  by_mark : (n : ℕ) (k : Context) (a b : TStmtTrees) (z : Bool) → AllItems n k a → AllItems n k b → AllItems n k (if z then a else b)
  by_mark n k a b true h g = h
  by_mark n k a b false h g = g

  behind_all : (n : ℕ) (k : Context) (m : marks.Mark) (items : TStmtTrees) → AllItems n k items → AllItems n k (marks.behind m items)
  behind_all n k m c.none h = tt
  behind_all n k m (c.more item rest) h = by_mark n k rest (marks.behind m rest) (marks.is_mark m item) h.1 (behind_all n k m rest h.1)

  enter_all : (n : ℕ) (k : Context) (e : Option marks.Mark) (items : TStmtTrees) → AllItems n k items → AllItems n k (kept.enter e items)
  enter_all n k None items h = h
  enter_all n k (Some m) items h = behind_all n k m items h

  -- from a mark on, where there is one
  items_enter : (n : ℕ) (k : Context) (e : Option marks.Mark) (items : TStmtTrees) → AllItems n k items → (w : List Item) (s : List Held) (l : low.State) → Room l → Fits p (state (does (kept.enter e items) w) s l.memory l.inputs)
      → Done over p void n k (state (does (kept.enter e items) w) s l.memory l.inputs) w s (meaning.items over (lower p plan) (later n) (low_entry e) (lower_items p own k items).items l)
  items_enter n k e items h w s l room fits =
      subst (λ o. Done over p void n k (state (does (kept.enter e items) w) s l.memory l.inputs) w s o) (sym (kept.items_entered p own k over (lower p plan) (later n) e items l))
      (items_follow n k (kept.enter e items) (enter_all n k e items h) w s l room fits)

  -- ---- a block: its items, and gotos that come back into it

  pub inside : (n : ℕ) (k : Context) (xs : List ℕ) (e : Option marks.Mark) (items : TStmtTrees) → ((m : ℕ) → m ≤ n → AllItems m k items) → (w : List Item) (s : List Held) (l : low.State) → Room l
      → Fits p (state (does (kept.enter e items) (Close xs items ∷ w)) s l.memory l.inputs)
      → Inside over p void n k (state (does (kept.enter e items) (Close xs items ∷ w)) s l.memory l.inputs) xs items w s
      (caught (later n) (lower_items p own k items).items (meaning.items over (lower p plan) (later n) (low_entry e) (lower_items p own k items).items l))
  inside zero k xs e items h w s l room fits =
      caught_follows over p void zero k xs items (lower_items p own k items).items _ w s (later zero) _ (λ label. kept.has_kept p own k (marks.AtLabel label) items)
      (items_enter zero k e items (h zero (omega arith)) (Close xs items ∷ w) s l room fits) (λ label t is there u leads st. tt)
  inside (suc n) k xs e items h w s l room fits =
      let all = (lower_items p own k items).items in
      let s0 = state (does (kept.enter e items) (Close xs items ∷ w)) s l.memory l.inputs in
      caught_follows over p void (suc n) k xs items all s0 w s (later (suc n)) _ (λ label. kept.has_kept p own k (marks.AtLabel label) items)
      (items_enter (suc n) k e items (h (suc n) (omega arith)) (Close xs items ∷ w) s l room fits)
      (λ label t is there u leads st.
      let s1 = state (does (marks.behind (marks.AtLabel label) items) (Close xs items ∷ w)) s t.memory t.inputs in
      follows_step over p n u s1 (calls_in w) (RestGoal (Close xs items ∷ w) s) (λ x r. way_in void k w s x (leave xs r)) _ st
      (inside n k xs (Some (marks.AtLabel label)) items (λ m le. h m (omega (arith, le))) w s t (items_left (suc n) (low_entry e) all l t (ByGoto label) is room) (keeps u s1 (reached s0 u leads fits) st)))

  pub free_case : (n : ℕ) (k : Context) (s0 : State) (w : List Item) (s : List Held) (o : Outcome) (z : Bool) → Done over p void n k s0 w s o → Done over p void n k s0 w s (if z then o else Clash)
  free_case n k s0 w s o true h = h
  free_case n k s0 w s o false h = tt

  -- the objects of a block begin to live, and end where it ends
  pub block_follows : (n : ℕ) (k : Context) (xs : List ℕ) (e : Option marks.Mark) (items : TStmtTrees) → ((m : ℕ) → m ≤ n → AllItems m k items) → (s0 : State) (w : List Item) (s : List Held) (l : low.State) → Room l → Fits p s0
      → step p s0 ≡ goes (does (kept.enter e items) (Close xs items ∷ w)) s (open_all p.objects l.memory xs) l.inputs
      → Done over p void n k s0 w s (within (lower p plan) xs l (λ t. caught (later n) (lower_items p own k items).items (meaning.items over (lower p plan) (later n) (low_entry e) (lower_items p own k items).items t)))
  block_follows n k xs e items h s0 w s l room fits st =
      let l1 = enter p.objects xs l in
      let all = (lower_items p own k items).items in
      let o = at_scope xs (caught (later n) all (meaning.items over (lower p plan) (later n) (low_entry e) all l1)) in
      free_case n k s0 w s o (are_free xs l)
      (done_after n k s0 (state (does (kept.enter e items) (Close xs items ∷ w)) s l1.memory l1.inputs) w s o st fits
      (λ fit. scope_follows over p void n k xs items _ w s _ (inside n k xs e items h w s l1 room fit)))

  -- ---- a switch: where it goes on, or nothing

  pub select_case : (n : ℕ) (k : Context) (xs : List ℕ) (items : TStmtTrees) → ((m : ℕ) → m ≤ n → AllItems m (InSwitch k) items) → (s0 : State) (w : List Item) (s : List Held) (l : low.State) → Room l → Fits p s0
      → (z : Option marks.Mark) → step p s0 ≡ select_step p.objects z xs items w s l.memory l.inputs
      → Done over p void n k s0 w s (at_block (where_chosen (low_entry z) l (λ mark. within (lower p plan) xs l (λ t. caught (later n) (lower_items p own (InSwitch k) items).items
      (meaning.items over (lower p plan) (later n) (Some mark) (lower_items p own (InSwitch k) items).items t)))))
  select_case n k xs items h s0 w s l room fits None st = (_, one p _ _ st, refl)
  select_case n k xs items h s0 w s l room fits (Some m) st =
      switch_block over p void n k s0 w s _ (block_follows n (InSwitch k) xs (Some m) items h s0 (SwitchEnd ∷ w) s l room fits st)
