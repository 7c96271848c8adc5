-- The machine follows the code of each typed statement, where it follows calls with as much fuel.
use Rattle.std.proofs.Common.{◌≡◌, ℕ, ◌≤◌, List, [], ◌∷◌, ◌++◌, Option, Some, None, Bool, true, false, refl, sym, ◌∙◌, subst, max, arith, suc}
use Rattle.std.specs.Prelude.{IfSome, if◌then◌else◌}
use Rattle.std.proofs.Math.Nat.{le-max_left, le-max_right}
use Rattle.std.proofs.lemmas.List.Elements.{Contains-append_left, Contains-append_right}
use Rattle.c_syntax_written.specs.declared.place.Pos.{Pos}
use Rattle.c_syntax.specs.declared.program.Plan.{Plan}
use Rattle.c_syntax.specs.Types as types
use Rattle.c_syntax.specs.TypedExpr.{TExprTree}
use Rattle.c_syntax.specs.TypedStmt as c
use Rattle.c_syntax.specs.TypedStmt.{TInitTree, TStmtTree, TStmtTrees}
use Rattle.c_syntax.specs.GivenType.{given_type}
use Rattle.c_syntax.specs.Program.{TProgramTree}
use Rattle.c_layout.specs.Calls.{PlacedCall, calls_of, calls_if_there, stmt_calls, item_calls}
use Rattle.c_layout.specs.RowTypes.{IsScalar, is_void}
use Rattle.c_layout.specs.TypedNodes.{Scope, Standing, IsTypedExpr, IsTypedCondition, IsTypedStmt, AreTypedItems, IsHead, AreHead}
use Rattle.block_mem.specs.declared.types.Value.{Value}
use Rattle.block_mem.specs.declared.types.Value.TheVariants as values
use Rattle.c_values.specs.declared.values.Given.TheVariants as givens
use Rattle.c_values.specs.Values.{bit}
use Rattle.c_steps.specs.Work.{Item, Eval, Drop, Do, Close, Begin, Turn, Again, Select, Choose, Leave}
use Rattle.c_steps.specs.States.{Held, Plain, State, state, goes, held}
use Rattle.c_steps.specs.Expressions.{value_scalar}
use Rattle.c_steps.specs.Statements.{loop_of}
use Rattle.c_steps.specs.Jumps.{left}
use Rattle.c_steps.specs.Marks as marks
use Rattle.c_steps.specs.Marks.{does}
use Rattle.c_steps.specs.Steps.{step}
use Rattle.c_steps.specs.Runs.{calls_in}
use Rattle.c_steps_laws.specs.Fits.{Fits, Runs}
use Rattle.c_steps_laws.specs.Wants.{want_of}
use Rattle.c_steps_laws.proofs.NeededRuns.{fitting_states_step}
use Rattle.c_steps_laws.proofs.Rows.{store_row}
use Rattle.csharp.specs.Trees as code
use Rattle.csharp.specs.Trees.{CsExprTree, CsStmtTree, CsStmtTrees}
use Rattle.csharp.specs.States as low
use Rattle.csharp.specs.States.{value_of}
use Rattle.csharp.specs.Actions.{enter, are_free}
use Rattle.csharp.specs.Outcomes.{ByExit, ByReturn, Outcome, Normal, Leaves, then_do, at_scope}
use Rattle.csharp.specs.Meaning as meaning
use Rattle.csharp.specs.Meaning.{caught, within, where_chosen}
use Rattle.lower_trees.specs.LowerExpr.{lower_expr}
use Rattle.lower_trees.specs.LowerStmt.{Context, InLoop, InSwitch, Past, test_of, step_of, loop_code, with_last, lower_stmt, lower_items}
use Rattle.lower_rows.proofs.Steps.{ToSome, one, none, follows_after, follows_then}
use Rattle.lower_rows.proofs.Rows.{RestGoal, no_way}
use Rattle.lower_formed.proofs.Placing.{Bodied}
use Rattle.lower_quiet.proofs.Callees.{base}
use Rattle.lower_exprs_run.proofs.Simple as simple
use Rattle.lower_exprs_run.proofs.Sims.{CallsFollow, sim_expr}
use Rattle.lower_stmts_run.proofs.Ways.{way_in, Done, then_assoc, past_begin, caught_follows, scope_follows, branch_done, break_done, continue_done}
use Rattle.lower_stmts_run.proofs.Marks as kept
use Rattle.lower_stmts_run.proofs.Items as items
use Rattle.lower_stmts_run.proofs.Loops as loops
use Rattle.lower_stmts_run.proofs.Inits as inits
use Rattle.lower_stmts_run.proofs.Inits.{scalar_from}

two_bounds : (k l m : ℕ) → max k l ≤ m → (k ≤ m) × (l ≤ m)
two_bounds k l m h = (let x = le-max_left k l in omega (arith, x, h), let x = le-max_right k l in omega (arith, x, h))

three_bounds : (j k l m : ℕ) → max j (max k l) ≤ m → (j ≤ m) × (k ≤ m) × (l ≤ m)
three_bounds j k l m h = let x = two_bounds j (max k l) m h in let y = two_bounds k l m x.1 in (x.0, y.0, y.1)

then_same : (o : Outcome) (g h : low.State → Outcome) → ((t : low.State) → g t ≡ h t) → then_do o g ≡ then_do o h
then_same (Normal t) g h e = e t
then_same o g h e = refl

then_normal : (o : Outcome) → then_do o (λ t. Normal t) ≡ o
then_normal (Normal t) = refl
then_normal o = refl

head_unmarked : (label : ℕ) (item : TStmtTree) → IsHead item → marks.is_mark (marks.AtLabel label) item ≡ false
head_unmarked label (c.Expr at e) h = refl
head_unmarked label (c.Declare at x inits z) h = refl
head_unmarked label (c.Static at x) h = refl
head_unmarked label item h = absurd h

module _ (over : ℕ → Bool) (start : over 0 ≡ false) (p : TProgramTree) (plan : Plan) (runs : Runs p plan) (f : ℕ) (b : Bodied p f) (rows : ℕ) where
  abbrev Room : low.State → Type 0
  Room l = items.Room over p plan runs f b rows l

  abbrev run : ℕ → CsStmtTree → low.State → Outcome
  run n a l = items.run over p plan runs f b rows n a l

  abbrev in_order : ℕ → CsStmtTrees → low.State → Outcome
  in_order n all l = items.in_order over p plan runs f b rows n all l

  abbrev own : ℕ
  own = base p plan runs f b

  abbrev void : Bool
  void = is_void b.function.result

  abbrev done : ℕ → Context → State → List Item → List Held → Outcome → Type 0
  done n k s0 w s o = Done over p void n k s0 w s o

  abbrev Low : List PlacedCall → Type 0
  Low ks = inits.Low over p plan runs f b rows ks

  left_calls : (xs ys : List PlacedCall) → Low (xs ++ ys) → Low xs
  left_calls xs ys h k m = h k (Contains-append_left xs ys k m)

  right_calls : (xs ys : List PlacedCall) → Low (xs ++ ys) → Low ys
  right_calls xs ys h k m = h k (Contains-append_right xs ys k m)

  no_calls : Low []
  no_calls k m = absurd (let lt = m.1 in omega (arith, lt))

  -- calls are followed with so much fuel, and with less
  abbrev pub Calls : ℕ → Type 0
  Calls n = (m : ℕ) → m ≤ n → CallsFollow over p plan runs m f b

  fewer : (m n : ℕ) → m ≤ n → Calls n → Calls m
  fewer m n le calls j lt = calls j (omega (arith, le, lt))

  abbrev Sim : ℕ → Context → TStmtTree → Type 0
  Sim n k a = items.StmtSim over p plan runs f b rows n k a

  abbrev seen : List ℕ → Scope
  seen live = record { program = p; live = live }

  abbrev pub St : List ℕ → List ℕ → Bool → Bool → Bool → Standing
  St live block br co ca = record { scope = record { program = p; live = live }; block = block; result = b.function.result; breaks = br; continues = co; cases = ca }

  -- ---- the parts of a loop, which may be missing

  test_sim : (n : ℕ) → CallsFollow over p plan runs n f b → (at : Pos) (o next : Option TExprTree) (a : TStmtTree) (body step : CsStmtTree) (live : List ℕ) → IfSome o (IsTypedCondition (seen live)) → Low (calls_if_there o)
      → (test_of p own at o).top ≤ rows → loops.TestSim over p plan runs f b rows at (loop_of at o next a) (test_of p own at o).code body step n
  test_sim n calls at None next a body step live t low top j w s l room fits =
      (state (Turn j (loop_of at None next a) ∷ w) (held (bit true) ∷ s) l.memory l.inputs, refl, (_, none p _, refl))
  test_sim n calls at (Some e) next a body step live t low top j w s l room fits =
      let loop = loop_of at (Some e) next a in
      let s1 = state (Eval e ∷ Turn j loop ∷ w) s l.memory l.inputs in (
        s1,
        refl,
        (sim_expr over p plan runs n f b calls e live true own t.0 low (items.same_le own)).unless at 0 (Turn j loop) w s (λ m i. goes (Do a ∷ Again (suc j) loop ∷ w) s m i) (λ m i. goes w s m i) l t.1
            (λ v m i. refl) refl (omega (arith, room, top)) (items.keeps over p plan runs f b rows (state (Begin j loop ∷ w) s l.memory l.inputs) s1 fits refl),
      )

  step_sim : (n : ℕ) → CallsFollow over p plan runs n f b → (at : Pos) (o next : Option TExprTree) (a : TStmtTree) (test body : CsStmtTree) (live : List ℕ) → IfSome next (IsTypedExpr (seen live) false) → Low (calls_if_there next)
      → (step_of p own next).top ≤ rows → loops.StepSim over p plan runs f b rows at (loop_of at o next a) test body (step_of p own next).code n
  step_sim n calls at o None a test body live t low top j w s l room fits = (_, one p _ _ refl, refl)
  step_sim n calls at o (Some e) a test body live t low top j w s l room fits =
      let loop = loop_of at o (Some e) a in
      let s0 = state (Again j loop ∷ w) s l.memory l.inputs in
      let s1 = state (Eval e ∷ Drop ∷ Begin j loop ∷ w) s l.memory l.inputs in
      let v = (lower_expr p own e).value in
      follows_after over p n s0 s1 (calls_in w) (RestGoal (Begin j loop ∷ w) s) no_way (run n v.before l) (one p s0 s1 refl)
      (items.dropped over p plan runs f b rows n s1 (Begin j loop ∷ w) s (want_of (given_type e)) v.value no_way (run n v.before l)
      ((sim_expr over p plan runs n f b calls e live false own t low (items.same_le own)).value (Drop ∷ Begin j loop ∷ w) s l (omega (arith, room, top)) (items.keeps over p plan runs f b rows s0 s1 fits refl)))

  -- ---- a loop with a head

  -- items, and a last one
  items_last : (n : ℕ) (all : CsStmtTrees) (last : CsStmtTree) (t : low.State) → in_order n (with_last all last) t ≡ then_do (in_order n all t) (λ r. run n last r)
  items_last n code.none last t = then_normal (run n last t)
  items_last n (code.more item rest) last t =
      then_same (run n item t) (λ r. in_order n (with_last rest last) r) (λ r. then_do (in_order n rest r) (λ u. run n last u)) (λ r. items_last n rest last r)
      ∙ sym (then_assoc (run n item t) (λ r. in_order n rest r) (λ u. run n last u))

  -- no label stands among them
  last_unmarked : (k : Context) (label : ℕ) (head : TStmtTrees) (a : CsStmtTree) → AreHead head → meaning.has (meaning.AtLabel label) (with_last (lower_items p own k head).items (code.Block a)) ≡ false
  unfolding AreHead
  last_unmarked k label c.none a h = refl
  last_unmarked k label (c.more item rest) a h =
      rw (kept.mark_kept p own k (marks.AtLabel label) item) (rw (head_unmarked label item h.0) (last_unmarked k label rest a h.1))

  for_follows : (n : ℕ) (k : Context) (at : Pos) (xs : List ℕ) (head : TStmtTrees) (o next : Option TExprTree) (a : TStmtTree) → AreHead head → items.AllItems over p plan runs f b rows n k head
      → ((m : ℕ) → m ≤ n → loops.LoopSims over p plan runs f b rows at (loop_of at o next a) (test_of p own at o).code (lower_stmt p own InLoop a).code (step_of p own next).code m)
      → (w : List Item) (s : List Held) (l : low.State) → Room l → Fits p (state (Do (c.For at xs head o next a) ∷ w) s l.memory l.inputs)
      → done n k (state (Do (c.For at xs head o next a) ∷ w) s l.memory l.inputs) w s (run n (lower_stmt p own k (c.For at xs head o next a)).code l)
  for_follows n k at xs head o next a is_head hs sims w s l room fits =
      let loop = loop_of at o next a in
      let later = items.later over p plan runs f b rows n in
      let s0 = state (Do (c.For at xs head o next a) ∷ w) s l.memory l.inputs in
      let l1 = enter p.objects xs l in
      let end = Close xs c.none ∷ w in
      let s1 = state (does head (Begin 0 loop ∷ end)) s l1.memory l1.inputs in
      let test = (test_of p own at o).code in
      let body = (lower_stmt p own InLoop a).code in
      let next_code = (step_of p own next).code in
      let turn = loops.turn over p plan runs f b rows at loop test body next_code in
      let whole = code.Block (code.Loop at turn) in
      let first = (lower_items p own k head).items in
      let all = with_last first whole in
      items.free_case over p plan runs f b rows n k s0 w s (at_scope xs (caught later all (in_order n all l1))) (are_free xs l)
      (items.done_after over p plan runs f b rows n k s0 s1 w s (at_scope xs (caught later all (in_order n all l1))) refl fits
      (λ fit. scope_follows over p void n k xs c.none s1 w s (caught later all (in_order n all l1))
      (caught_follows over p void n k xs c.none all s1 w s later (in_order n all l1) (λ label. last_unmarked k label head (code.Loop at turn) is_head)
      (subst (λ r. done n k s1 end s r) (sym (items_last n first whole l1))
      (follows_then over p n s1 (calls_in w) (RestGoal (Begin 0 loop ∷ end) s) (RestGoal end s) (way_in void k (Begin 0 loop ∷ end) s) (way_in void k end s) (in_order n first l1) (λ r. run n whole r)
      (items.items_follow over p plan runs f b rows n k head hs (Begin 0 loop ∷ end) s l1 room fit)
      (λ r u is leads e. subst (λ x. done n k x end s (run n whole r)) (sym e)
      (loops.loop_block over p plan runs f b rows n k (state (Begin 0 loop ∷ end) s r.memory r.inputs) end s (run n (code.Loop at turn) r)
      (loops.loop_follows over p plan runs f b rows at loop test body next_code n sims end s r (items.items_room over p plan runs f b rows n first l1 r is room)
      (subst (λ x. Fits p x) e (items.reached over p plan runs f b rows s1 u leads fit)))))
      (λ x t h. past_begin over p void k 0 loop end s s1 x t h)))
      (λ label t is there u leads g. absurd (cc)))))

  -- ---- a switch

  switch_value : (n : ℕ) (k : Context) (xs : List ℕ) (all : TStmtTrees) → ((m : ℕ) → m ≤ n → items.AllItems over p plan runs f b rows m (InSwitch k) all) → (w : List Item) (s : List Held) (e : CsExprTree) (t : low.State) → Room t → (v : Value)
      → value_of e t ≡ Some v → Fits p (state (Select xs all ∷ w) (held v ∷ s) t.memory t.inputs)
      → done n k (state (Select xs all ∷ w) (held v ∷ s) t.memory t.inputs) w s (run n (code.Block (code.Switch e xs (lower_items p own (InSwitch k) all).items)) t)
  switch_value n k xs all h w s e t room (values.Int u z) is fits =
      let s0 = state (Select xs all ∷ w) (held (values.Int u z) ∷ s) t.memory t.inputs in
      rw is (rw (kept.chosen_kept p own (InSwitch k) u z all) (items.select_case over p plan runs f b rows n k xs all h s0 w s t room fits (marks.chosen z all) refl))
  switch_value n k xs all h w s e t room (values.Ptr q) is fits = absurd (fitting_states_step p plan runs.typed runs.planned _ fits refl)
  switch_value n k xs all h w s e t room values.Null is fits = absurd (fitting_states_step p plan runs.typed runs.planned _ fits refl)

  -- ---- a return

  empty_return : (n : ℕ) (k : Context) (at : Pos) (w : List Item) (s : List Held) (l : low.State) → b.function.result ≡ types.Void
      → done n k (state (Do (c.Return at None) ∷ w) s l.memory l.inputs) w s (Leaves (ByReturn None) l)
  empty_return n k at w s l e =
      subst (λ z. ToSome p (state (Do (c.Return at None) ∷ w) s l.memory l.inputs) (if is_void z then Some (left w (Plain givens.Nothing) s l.memory l.inputs) else None)) (sym e)
      (state (Leave ∷ w) (Plain givens.Nothing ∷ s) l.memory l.inputs, one p _ _ refl, refl)

  mutual
    unfolding IsTypedStmt stmt_calls

    pub stmt_sim : (a : TStmtTree) (n : ℕ) → Calls n → (k : Context) (live block : List ℕ) (br co ca : Bool) → IsTypedStmt (St live block br co ca) a → Low (stmt_calls a) → (lower_stmt p own k a).top ≤ rows → Sim n k a
    stmt_sim (c.Empty at) n calls k live block br co ca t low top w s l room fits = (_, one p _ _ refl, refl)
    stmt_sim (c.Expr at e) n calls k live block br co ca t low top w s l room fits =
        let v = (lower_expr p own e).value in
        let s1 = state (Eval e ∷ Drop ∷ w) s l.memory l.inputs in
        items.done_after over p plan runs f b rows n k (state (Do (c.Expr at e) ∷ w) s l.memory l.inputs) s1 w s (run n v.before l) refl fits
        (λ fit. items.dropped over p plan runs f b rows n s1 w s (want_of (given_type e)) v.value (way_in void k w s) (run n v.before l)
        ((sim_expr over p plan runs n f b (calls n (items.same_le n)) e live false own t low (items.same_le own)).value (Drop ∷ w) s l (omega (arith, room, top)) fit))
    stmt_sim (c.Block at kind xs all) n calls k live block br co ca t low top w s l room fits =
        items.block_follows over p plan runs f b rows n k xs None all (λ m le. items_sim all m (fewer m n le calls) k (xs ++ live) xs br co false t low top) (state (Do (c.Block at kind xs all) ∷ w) s l.memory l.inputs) w s l room fits refl
    stmt_sim (c.Declare at x is z) n calls k live block br co ca (here, t) low top w s l room fits =
        inits.declare_follows over p plan runs f b rows n (calls n (items.same_le n)) at x is z live t.typed low top (way_in void k w s) w s l room fits
    stmt_sim (c.Static at x) n calls k live block br co ca t low top w s l room fits = (_, one p _ _ refl, refl)
    stmt_sim (c.If at e x y) n calls k live block br co ca (te, bx, tx, by, ty) low top w s l room fits =
        let tops = three_bounds (lower_expr p own e).value.top (lower_stmt p own (Past (Past k)) x).top (lower_stmt p own (Past k) y).top rows top in
        let front = left_calls (calls_of e ++ stmt_calls x) (stmt_calls y) low in
        let test = (lower_expr p own e).unless at 0 in
        let first = (lower_stmt p own (Past (Past k)) x).code in
        let second = (lower_stmt p own (Past k) y).code in
        let s0 = state (Do (c.If at e x y) ∷ w) s l.memory l.inputs in
        let s1 = state (Eval e ∷ Choose at (value_scalar e) x y ∷ w) s l.memory l.inputs in
        items.done_after over p plan runs f b rows n k s0 s1 w s (run n (lower_stmt p own k (c.If at e x y)).code l) refl fits
        (λ fit. branch_done over p void n k s1 w s (λ m i. goes (Do x ∷ w) s m i) (λ m i. goes (Do y ∷ w) s m i) (run n test l) (λ t. run n first t) (λ t. run n second t)
        ((sim_expr over p plan runs n f b (calls n (items.same_le n)) e live true own te.0 (left_calls (calls_of e) (stmt_calls x) front) (items.same_le own)).unless at 0 (Choose at (value_scalar e) x y) w s
        (λ m i. goes (Do x ∷ w) s m i) (λ m i. goes (Do y ∷ w) s m i) l te.1 (λ v m i. refl) refl (let z = tops.0 in omega (arith, room, z)) fit)
        (λ t u is leads g. let s2 = state (Do x ∷ w) s t.memory t.inputs in
        follows_after over p n u s2 (calls_in w) (RestGoal w s) (way_in void (Past (Past k)) w s) (run n first t) (one p u s2 g)
        (stmt_sim x n calls (Past (Past k)) live block br co ca tx (right_calls (calls_of e) (stmt_calls x) front) tops.1 w s t (items.room_after over p plan runs f b rows n test l t is room)
        (items.keeps over p plan runs f b rows u s2 (items.reached over p plan runs f b rows s1 u leads fit) g)))
        (λ t u is leads g. let s2 = state (Do y ∷ w) s t.memory t.inputs in
        follows_after over p n u s2 (calls_in w) (RestGoal w s) (way_in void (Past k) w s) (run n second t) (one p u s2 g)
        (stmt_sim y n calls (Past k) live block br co ca ty (right_calls (calls_of e ++ stmt_calls x) (stmt_calls y) low) tops.2 w s t (items.room_left over p plan runs f b rows n test l t (ByExit 0) is room)
        (items.keeps over p plan runs f b rows u s2 (items.reached over p plan runs f b rows s1 u leads fit) g))))
    stmt_sim (c.While at e a) n calls k live block br co ca (te, ba, ta) low top w s l room fits =
        let tops = three_bounds (lower_expr p own e).value.top (lower_stmt p own InLoop a).top own rows top in
        let loop = loop_of at (Some e) None a in
        let test = (lower_expr p own e).unless at 0 in
        let body = (lower_stmt p own InLoop a).code in
        let s1 = state (Begin 0 loop ∷ w) s l.memory l.inputs in
        items.done_after over p plan runs f b rows n k (state (Do (c.While at e a) ∷ w) s l.memory l.inputs) s1 w s (run n (lower_stmt p own k (c.While at e a)).code l) refl fits
        (λ fit. loops.loop_block over p plan runs f b rows n k s1 w s _ (loops.loop_follows over p plan runs f b rows at loop test body code.Nothing n
        (λ m le. (
          test_sim m (calls m le) at (Some e) None a body code.Nothing live te (left_calls (calls_of e) (stmt_calls a) low) tops.0,
          stmt_sim a m (fewer m n le calls) InLoop live block true true false ta (right_calls (calls_of e) (stmt_calls a) low) tops.1,
          step_sim m (calls m le) at (Some e) None a test body live tt no_calls tops.2,
        )) w s l room fit))
    stmt_sim (c.DoWhile at a e) n calls k live block br co ca (te, ba, ta) low top w s l room fits =
        let tops = two_bounds (lower_expr p own e).value.top (lower_stmt p own InLoop a).top rows top in
        let loop = loop_of at (Some e) None a in
        let test = (lower_expr p own e).unless at 0 in
        let body = (lower_stmt p own InLoop a).code in
        let s1 = state (Do a ∷ Again 1 loop ∷ w) s l.memory l.inputs in
        items.done_after over p plan runs f b rows n k (state (Do (c.DoWhile at a e) ∷ w) s l.memory l.inputs) s1 w s (run n (lower_stmt p own k (c.DoWhile at a e)).code l) refl fits
        (λ fit. loops.loop_block over p plan runs f b rows n k s1 w s _ (loops.do_loop over p plan runs f b rows at loop test body code.Nothing n start refl
        (λ m le. (
          test_sim m (calls m le) at (Some e) None a body code.Nothing live te (right_calls (stmt_calls a) (calls_of e) low) tops.0,
          stmt_sim a m (fewer m n le calls) InLoop live block true true false ta (left_calls (stmt_calls a) (calls_of e) low) tops.1,
        )) w s l room fit))
    stmt_sim (c.For at xs head e next a) n calls k live block br co ca (hd, th, te, ts, ba, ta) low top w s l room fits =
        let bounds = two_bounds (lower_items p own k head).top (loop_code at (test_of p own at e) (lower_stmt p own InLoop a) (step_of p own next)).top rows top in
        let tops = three_bounds (test_of p own at e).top (lower_stmt p own InLoop a).top (step_of p own next).top rows bounds.1 in
        let k1 = item_calls head in
        let k2 = calls_if_there e in
        let k3 = calls_if_there next in
        let k4 = stmt_calls a in
        let m3 = left_calls ((k1 ++ k2) ++ k3) k4 low in
        let m2 = left_calls (k1 ++ k2) k3 m3 in
        for_follows n k at xs head e next a hd (items_sim head n calls k (xs ++ live) xs br co false th (left_calls k1 k2 m2) bounds.0)
        (λ m le. (
          test_sim m (calls m le) at e next a (lower_stmt p own InLoop a).code (step_of p own next).code (xs ++ live) te (right_calls k1 k2 m2) tops.0,
          stmt_sim a m (fewer m n le calls) InLoop (xs ++ live) xs true true false ta (right_calls ((k1 ++ k2) ++ k3) k4 low) tops.1,
          step_sim m (calls m le) at e next a (test_of p own at e).code (lower_stmt p own InLoop a).code (xs ++ live) ts (right_calls (k1 ++ k2) k3 m3) tops.2,
        )) w s l room fits
    stmt_sim (c.Switch at e kind xs all) n calls k live block br co ca (te, row, ti) low top w s l room fits =
        let tops = two_bounds (lower_expr p own e).value.top (lower_items p own (InSwitch k) all).top rows top in
        let v = (lower_expr p own e).value in
        let s1 = state (Eval e ∷ Select xs all ∷ w) s l.memory l.inputs in
        items.done_after over p plan runs f b rows n k (state (Do (c.Switch at e kind xs all) ∷ w) s l.memory l.inputs) s1 w s (run n (lower_stmt p own k (c.Switch at e kind xs all)).code l) refl fits
        (λ fit. items.value_on over p plan runs f b rows n s1 (Select xs all ∷ w) s v.value (run n v.before l) _ (calls_in w) (RestGoal w s) (way_in void k w s) fit refl
        (simple.scalar_value over p plan runs n f b e v s1 (Select xs all ∷ w) s (run n v.before l) (subst IsScalar (sym row.integer) tt)
        ((sim_expr over p plan runs n f b (calls n (items.same_le n)) e live true own te (left_calls (calls_of e) (item_calls all) low) (items.same_le own)).value (Select xs all ∷ w) s l (let z = tops.0 in omega (arith, room, z)) fit))
        (λ t is z ev more. switch_value n k xs all (λ m le. items_sim all m (fewer m n le calls) (InSwitch k) (xs ++ live) xs true co true ti (right_calls (calls_of e) (item_calls all) low) tops.1) w s v.value t
        (items.room_after over p plan runs f b rows n v.before l t is room) z ev more))
    stmt_sim (c.Break at) n calls k live block br co ca t low top w s l room fits = break_done over p void n k at w s l
    stmt_sim (c.Continue at) n calls k live block br co ca t low top w s l room fits = continue_done over p void n k at w s l
    stmt_sim (c.Goto at label) n calls k live block br co ca t low top w s l room fits = (_, none p _, refl)
    stmt_sim (c.Return at None) n calls k live block br co ca t low top w s l room fits = empty_return n k at w s l t
    stmt_sim (c.Return at (Some e)) n calls k live block br co ca (te, row) low top w s l room fits =
        let v = (lower_expr p own e).value in
        let q = store_row b.function.result (given_type e) row in
        let s1 = state (Eval e ∷ Leave ∷ w) s l.memory l.inputs in
        items.done_after over p plan runs f b rows n k (state (Do (c.Return at (Some e)) ∷ w) s l.memory l.inputs) s1 w s (run n (lower_stmt p own k (c.Return at (Some e))).code l) refl fits
        (λ fit. items.value_on over p plan runs f b rows n s1 (Leave ∷ w) s v.value (run n v.before l) _ (calls_in w) (RestGoal w s) (way_in void k w s) fit refl
        (simple.scalar_value over p plan runs n f b e v s1 (Leave ∷ w) s (run n v.before l) (scalar_from (given_type e) q.0 q.2)
        ((sim_expr over p plan runs n f b (calls n (items.same_le n)) e live true own te low (items.same_le own)).value (Leave ∷ w) s l (omega (arith, room, top)) fit))
        (λ t is z ev more. rw ev (_, none p _, refl)))
    stmt_sim (c.Label at label) n calls k live block br co ca t low top w s l room fits = (_, one p _ _ refl, refl)
    stmt_sim (c.Case at z) n calls k live block br co ca t low top w s l room fits = (_, one p _ _ refl, refl)
    stmt_sim (c.Default at) n calls k live block br co ca t low top w s l room fits = (_, one p _ _ refl, refl)

    pub items_sim : (all : TStmtTrees) (n : ℕ) → Calls n → (k : Context) (live block : List ℕ) (br co ca : Bool) → AreTypedItems (St live block br co ca) all → Low (item_calls all) → (lower_items p own k all).top ≤ rows
        → items.AllItems over p plan runs f b rows n k all
    items_sim c.none n calls k live block br co ca t low top = tt
    items_sim (c.more item rest) n calls k live block br co ca (t, ts) low top =
        let tops = two_bounds (lower_stmt p own k item).top (lower_items p own k rest).top rows top in (
          stmt_sim item n calls k live block br co ca t (left_calls (stmt_calls item) (item_calls rest) low) tops.0,
          items_sim rest n calls k live block br co ca ts (right_calls (stmt_calls item) (item_calls rest) low) tops.1,
        )
