-- The checks, calls, inputs, loops and labels of what a typed statement is lowered to are its own.
use Rattle.std.proofs.Common.{◌≡◌, ℕ, zero, suc, ◌≤◌, List, [], ◌∷◌, ◌++◌, Option, Some, None, Bool, true, false, refl, subst, arith}
use Rattle.std.specs.Prelude.{All, IfSome, Contains, ◌||◌, if◌then◌else◌}
use Rattle.std.specs.List.{flat_map}
use Rattle.std.proofs.lemmas.List.Elements.{All-head, All-tail, Contains-append_left, Contains-append_right}
use Rattle.c_syntax_written.specs.declared.place.Pos.{Pos}
use Rattle.c_syntax.specs.Types.{CTypeTree}
use Rattle.c_syntax.specs.TypedExpr.{TExprTree}
use Rattle.c_syntax.specs.TypedStmt as c
use Rattle.c_syntax.specs.TypedStmt.{TInitTree, TStmtTree, TStmtTrees}
use Rattle.c_syntax.specs.Program.{TProgramTree}
use Rattle.c_layout.specs.Calls.{calls_of, init_calls, calls_if_there, stmt_calls, item_calls}
use Rattle.c_layout.specs.Checks.{checks_of, init_checks, condition_checks, checks_if_there, stmt_checks, item_checks}
use Rattle.c_layout.specs.TypedNodes.{Standing, IsTypedStmt, AreTypedItems, IsTypedInit, IsTypedCondition, IsTypedExpr, object_type}
use Rattle.block_mem.specs.declared.types.Scalar.{Scalar}
use Rattle.c_steps.specs.Bounds.{reads_input, maybe_reads_input, inits_read_input, stmt_reads_input, items_read_input}
use Rattle.c_steps_laws.proofs.Expressions.{AreSized}
use Rattle.c_objects.specs.Opening.{size_of}
use Rattle.c_objects.specs.Writing.{is_named}
use Rattle.csharp.specs.Trees.{CsStmtTree, Store, CopyBytes, Undefine, Sequence, Loop, Block, Exit, Scope, Switch, Goto, Return, Label, Case, Default, CsStmtTrees, none, more}
use Rattle.lower_trees.specs.Correct.{loops_of, loops_in, marks_of, marks_in}
use Rattle.lower_trees.specs.Zeros.{zero_cells, object_scalars}
use Rattle.lower_trees.specs.LowerExpr.{lower_expr}
use Rattle.lower_trees.specs.LowerStmt.{Context, InLoop, InSwitch, Past, break_level, continue_level, init_code, rest_code, inits_code, test_of, step_of, with_last, lower_stmt, lower_items}
use Rattle.lower_formed.proofs.Made as made
use Rattle.lower_formed.specs.Every.{Every, EveryItem}
use Rattle.lower_formed.proofs.Made.{AsksNothing, Ways}
use Rattle.lower_formed.proofs.MadeExprs.{made_expr}

-- a property that loops at these places have, and these labels
pub record Marked (P : CsStmtTree → Type 0) (loops : List Pos) (marks : List (Pos × ℕ)) : Type 0 where
  pub loop : (at : Pos) (a : CsStmtTree) → Contains loops at → P (Loop at a)
  pub mark : (at : Pos) (l : ℕ) → Contains marks (at, l) → P (Label at l)

module _ (P : CsStmtTree → Type 0) (asks : (a : CsStmtTree) → AsksNothing a → P a) (lo : ℕ) (p : TProgramTree) (sized : AreSized p) where
  marked_first : (xs ys : List Pos) (ms ns : List (Pos × ℕ)) → Marked P (xs ++ ys) (ms ++ ns) → Marked P xs ms
  marked_first xs ys ms ns m = record { loop = λ at a h. m.loop at a (Contains-append_left xs ys at h); mark = λ at l h. m.mark at l (Contains-append_left ms ns (at, l) h) }

  marked_second : (xs ys : List Pos) (ms ns : List (Pos × ℕ)) → Marked P (xs ++ ys) (ms ++ ns) → Marked P ys ns
  marked_second xs ys ms ns m = record { loop = λ at a h. m.loop at a (Contains-append_right xs ys at h); mark = λ at l h. m.mark at l (Contains-append_right ms ns (at, l) h) }

  marked_inner : (at : Pos) (xs : List Pos) (ms : List (Pos × ℕ)) → Marked P (at ∷ xs) ms → Marked P xs ms
  marked_inner at xs ms m = marked_second (at ∷ []) xs [] ms m

  abbrev St : List ℕ → List ℕ → CTypeTree → Bool → Bool → Bool → Standing
  St live block result breaks continues cases =
      record { scope = record { program = p; live = live }; block = block; result = result; breaks = breaks; continues = continues; cases = cases }

  abbrev I : TExprTree → Bool
  I e = reads_input e

  abbrev E : CsStmtTree → Type 0
  E a = Every P a

  either : (z : Bool) (a b : CsStmtTrees) → EveryItem P a → EveryItem P b → EveryItem P (if z then a else b)
  either true a b h k = h
  either false a b h k = k

  zeros_made : (at : ℕ → Option Scalar) (named : ℕ → Bool) (x left skip k : ℕ) (rest : CsStmtTrees) → EveryItem P rest → EveryItem P (zero_cells at named x k skip left rest)
  zeros_made at named x zero skip k rest h = h
  zeros_made at named x (suc left) (suc skip) k rest h = zeros_made at named x left skip (suc k) rest h
  zeros_made at named x (suc left) zero k rest h =
      either (named k) _ _ (zeros_made at named x left zero (suc k) rest h) (asks (Store _ _ _) tt, zeros_made at named x left _ (suc k) rest h)

  rest_made : (x : ℕ) (inits : List TInitTree) (z : Bool) → EveryItem P (rest_code p x inits z)
  rest_made x inits true = zeros_made (object_scalars p x) (is_named inits) x (size_of p.objects x) 0 0 none tt
  rest_made x inits false = tt

  last_made : (items : CsStmtTrees) (a : CsStmtTree) → EveryItem P items → E a → EveryItem P (with_last items a)
  last_made none a h k = (k, tt)
  last_made (more item rest) a (h, hs) k = (h, last_made rest a hs k)

  test_made : (e : TExprTree) (live : List ℕ) (d : ℕ) (at : Pos) (k : ℕ) → IsTypedCondition (record { program = p; live = live }) e → lo ≤ d
      → Ways P lo (condition_checks p at e) (calls_of e) (I e) → E ((lower_expr p d e).unless at k)
  test_made e live d at k (te, sc) le w = (made_expr P asks lo p sized e live true d te le).unless at k sc w

  value_made : (e : TExprTree) (live : List ℕ) (mark : Bool) (d : ℕ) → IsTypedExpr (record { program = p; live = live }) mark e → lo ≤ d
      → Ways P lo (checks_of p e) (calls_of e) (I e) → E (lower_expr p d e).value.before
  value_made e live mark d te le w = (made_expr P asks lo p sized e live mark d te le).value w

  turn_made : (o : Option TExprTree) (live : List ℕ) (d : ℕ) (at : Pos) → IfSome o (IsTypedCondition (record { program = p; live = live })) → lo ≤ d
      → Ways P lo (checks_if_there (condition_checks p at) o) (calls_if_there o) (maybe_reads_input o) → E (test_of p d at o).code
  turn_made None live d at t le w = made.nothing P asks lo
  turn_made (Some e) live d at t le w = test_made e live d at 0 t le w

  step_made : (o : Option TExprTree) (live : List ℕ) (d : ℕ) → IfSome o (IsTypedExpr (record { program = p; live = live }) false) → lo ≤ d
      → Ways P lo (checks_if_there (checks_of p) o) (calls_if_there o) (maybe_reads_input o) → E (step_of p d o).code
  step_made None live d t le w = made.nothing P asks lo
  step_made (Some e) live d t le w = value_made e live false d t le w

  abbrev reads_init : TInitTree → Bool
  reads_init (c.Store offset ty e) = I e
  reads_init (c.Copy offset extent e) = I e

  init_made : (init : TInitTree) (live : List ℕ) (x d : ℕ) → IsTypedInit (record { program = p; live = live }) (object_type p x) init → lo ≤ d
      → Ways P lo (init_checks p init) (init_calls init) (reads_init init) → E (init_code p d x init).code
  init_made (c.Store offset ty e) live x d t le w = made.seq P asks lo _ _ (value_made e live true d t.0 le w) (asks (Store _ _ _) tt)
  init_made (c.Copy offset extent e) live x d t le w =
      made.seq P asks lo _ _ ((made_expr P asks lo p sized e live true d t.0 le).source extent.size extent.align w) (asks (CopyBytes _ _ _) tt)

  -- with the inputs of an initialiser by its first item
  reads_first : (init : TInitTree) (inits : List TInitTree) → inits_read_input (init ∷ inits) ≡ reads_init init || inits_read_input inits
  reads_first (c.Store offset ty e) inits = refl
  reads_first (c.Copy offset extent e) inits = refl

  inits_made : (inits : List TInitTree) (live : List ℕ) (x d : ℕ) (rest : CsStmtTrees) → All (λ init. IsTypedInit (record { program = p; live = live }) (object_type p x) init) inits → lo ≤ d
      → Ways P lo (flat_map (init_checks p) inits) (flat_map init_calls inits) (inits_read_input inits) → EveryItem P rest → EveryItem P (inits_code p d x inits rest)
  inits_made [] live x d rest t le w h = h
  inits_made (init ∷ inits) live x d rest t le w h =
      let cs = init_checks p init in
      let ds = flat_map (init_checks p) inits in
      let ks = init_calls init in
      let ls = flat_map init_calls inits in
      let v = subst (λ z. Ways P lo (cs ++ ds) (ks ++ ls) z) (reads_first init inits) w in (
        init_made init live x d (All-head (λ i. IsTypedInit (record { program = p; live = live }) (object_type p x) i) init inits t) le
            (made.first P asks lo ks ls (reads_init init) (inits_read_input inits) (made.front P asks lo cs ds v)),
        inits_made inits live x d rest (All-tail (λ i. IsTypedInit (record { program = p; live = live }) (object_type p x) i) init inits t) le
            (made.second P asks lo ks ls (reads_init init) (inits_read_input inits) (made.back P asks lo cs ds v)) h,
      )

  -- a loop, whose turn is a test, the body and a step
  loop_made : (at : Pos) (test body step : CsStmtTree) → P (Loop at (Sequence test (Sequence (Block body) step))) → E test → E body → E step
      → E (Block (Loop at (Sequence test (Sequence (Block body) step))))
  loop_made at test body step own h k l =
      made.block P asks lo _ (own, made.seq P asks lo test (Sequence (Block body) step) h (made.seq P asks lo (Block body) step (made.block P asks lo body k) l))

  mutual
    unfolding IsTypedStmt stmt_checks stmt_calls stmt_reads_input loops_of marks_of

    pub made_stmt : (b : TStmtTree) (live block : List ℕ) (result : CTypeTree) (br co ca : Bool) (d : ℕ) (k : Context) → IsTypedStmt (St live block result br co ca) b → lo ≤ d
        → Ways P lo (stmt_checks p b) (stmt_calls b) (stmt_reads_input b) → Marked P (loops_of b) (marks_of b) → E (lower_stmt p d k b).code
    made_stmt (c.Empty at) live block result br co ca d k t le w m = made.nothing P asks lo
    made_stmt (c.Expr at e) live block result br co ca d k t le w m = value_made e live false d t le w
    made_stmt (c.Block at kind xs items) live block result br co ca d k t le w m = (asks (Scope xs _) tt, made_items items (xs ++ live) xs result br co false d k t le w m)
    made_stmt (c.Declare at x inits z) live block result br co ca d k (here, t) le w m =
        (asks (Scope [] _) tt, (asks (Undefine x) tt, inits_made inits live x d (rest_code p x inits z) t.typed le w (rest_made x inits z)))
    made_stmt (c.Static at x) live block result br co ca d k t le w m = made.nothing P asks lo
    made_stmt (c.If at e a b) live block result br co ca d k (te, ba, ta, bb, tb) le w m =
        let cs = condition_checks p at e in
        let v = made.front P asks lo (cs ++ stmt_checks p a) (stmt_checks p b) w in
        let f = made.first P asks lo (calls_of e ++ stmt_calls a) (stmt_calls b) (I e || stmt_reads_input a) (stmt_reads_input b) v in
        made.branches P asks lo ((lower_expr p d e).unless at 0) (lower_stmt p d (Past (Past k)) a).code (lower_stmt p d (Past k) b).code
        (test_made e live d at 0 te le (made.first P asks lo (calls_of e) (stmt_calls a) (I e) (stmt_reads_input a) (made.front P asks lo cs (stmt_checks p a) f)))
        (made_stmt a live block result br co ca d (Past (Past k)) ta le (made.second P asks lo (calls_of e) (stmt_calls a) (I e) (stmt_reads_input a) (made.back P asks lo cs (stmt_checks p a) f))
        (marked_first (loops_of a) (loops_of b) (marks_of a) (marks_of b) m))
        (made_stmt b live block result br co ca d (Past k) tb le
        (made.second P asks lo (calls_of e ++ stmt_calls a) (stmt_calls b) (I e || stmt_reads_input a) (stmt_reads_input b) (made.back P asks lo (cs ++ stmt_checks p a) (stmt_checks p b) w))
        (marked_second (loops_of a) (loops_of b) (marks_of a) (marks_of b) m))
    made_stmt (c.While at e b) live block result br co ca d k (te, bb, tb) le w m =
        let cs = condition_checks p at e in
        loop_made at _ _ _ (m.loop at _ (0, omega arith, refl))
        (test_made e live d at 0 te le (made.first P asks lo (calls_of e) (stmt_calls b) (I e) (stmt_reads_input b) (made.front P asks lo cs (stmt_checks p b) w)))
        (made_stmt b live block result true true false d InLoop tb le (made.second P asks lo (calls_of e) (stmt_calls b) (I e) (stmt_reads_input b) (made.back P asks lo cs (stmt_checks p b) w))
        (marked_inner at (loops_of b) (marks_of b) m))
        (made.nothing P asks lo)
    made_stmt (c.DoWhile at b e) live block result br co ca d k (te, bb, tb) le w m =
        let cs = condition_checks p at e in
        made.block P asks lo _ (
          m.loop at _ (0, omega arith, refl),
          made.seq P asks lo _ _
              (made.block P asks lo _ (made_stmt b live block result true true false d InLoop tb le (made.first P asks lo (stmt_calls b) (calls_of e) (stmt_reads_input b) (I e) (made.front P asks lo (stmt_checks p b) cs w))
              (marked_inner at (loops_of b) (marks_of b) m)))
              (test_made e live d at 0 te le (made.second P asks lo (stmt_calls b) (calls_of e) (stmt_reads_input b) (I e) (made.back P asks lo (stmt_checks p b) cs w))),
        )
    made_stmt (c.For at xs head e step b) live block result br co ca d k (hd, th, te, ts, bb, tb) le w m =
        let c1 = item_checks p head in
        let c2 = checks_if_there (condition_checks p at) e in
        let c3 = checks_if_there (checks_of p) step in
        let c4 = stmt_checks p b in
        let k1 = item_calls head in
        let k2 = calls_if_there e in
        let k3 = calls_if_there step in
        let k4 = stmt_calls b in
        let i1 = items_read_input head in
        let i2 = maybe_reads_input e in
        let i3 = maybe_reads_input step in
        let i4 = stmt_reads_input b in
        let w3 = made.first P asks lo ((k1 ++ k2) ++ k3) k4 ((i1 || i2) || i3) i4 (made.front P asks lo ((c1 ++ c2) ++ c3) c4 w) in
        let w2 = made.first P asks lo (k1 ++ k2) k3 (i1 || i2) i3 (made.front P asks lo (c1 ++ c2) c3 w3) in
        let m2 = marked_second (loops_in head) (at ∷ loops_of b) (marks_in head) (marks_of b) m in (
          asks (Scope xs _) tt,
          last_made (lower_items p d k head).items _
              (made_items head (xs ++ live) xs result br co false d k th le (made.first P asks lo k1 k2 i1 i2 (made.front P asks lo c1 c2 w2)) (marked_first (loops_in head) (at ∷ loops_of b) (marks_in head) (marks_of b) m))
              (loop_made at _ _ _ (m2.loop at _ (0, omega arith, refl))
              (turn_made e (xs ++ live) d at te le (made.second P asks lo k1 k2 i1 i2 (made.back P asks lo c1 c2 w2)))
              (made_stmt b (xs ++ live) xs result true true false d InLoop tb le (made.second P asks lo ((k1 ++ k2) ++ k3) k4 ((i1 || i2) || i3) i4 (made.back P asks lo ((c1 ++ c2) ++ c3) c4 w))
              (marked_inner at (loops_of b) (marks_of b) m2))
              (step_made step (xs ++ live) d ts le (made.second P asks lo (k1 ++ k2) k3 (i1 || i2) i3 (made.back P asks lo (c1 ++ c2) c3 w3)))),
        )
    made_stmt (c.Switch at e kind xs items) live block result br co ca d k (te, row, ti) le w m =
        made.seq P asks lo _ _ (value_made e live true d te le (made.first P asks lo (calls_of e) (item_calls items) (I e) (items_read_input items) (made.front P asks lo (checks_of p e) (item_checks p items) w)))
        (made.block P asks lo _ (
          asks (Switch _ xs _) tt,
          made_items items (xs ++ live) xs result true co true d (InSwitch k) ti le
              (made.second P asks lo (calls_of e) (item_calls items) (I e) (items_read_input items) (made.back P asks lo (checks_of p e) (item_checks p items) w)) m,
        ))
    made_stmt (c.Break at) live block result br co ca d k t le w m = asks (Exit (break_level k)) tt
    made_stmt (c.Continue at) live block result br co ca d k t le w m = asks (Exit (continue_level k)) tt
    made_stmt (c.Goto at l) live block result br co ca d k t le w m = asks (Goto l) tt
    made_stmt (c.Return at None) live block result br co ca d k t le w m = asks (Return None) tt
    made_stmt (c.Return at (Some e)) live block result br co ca d k (te, row) le w m = made.seq P asks lo _ _ (value_made e live true d te le w) (asks (Return (Some _)) tt)
    made_stmt (c.Label at l) live block result br co ca d k t le w m = m.mark at l (0, omega arith, refl)
    made_stmt (c.Case at j) live block result br co ca d k t le w m = asks (Case j) tt
    made_stmt (c.Default at) live block result br co ca d k t le w m = asks Default tt

    pub made_items : (items : TStmtTrees) (live block : List ℕ) (result : CTypeTree) (br co ca : Bool) (d : ℕ) (k : Context) → AreTypedItems (St live block result br co ca) items → lo ≤ d
        → Ways P lo (item_checks p items) (item_calls items) (items_read_input items) → Marked P (loops_in items) (marks_in items) → EveryItem P (lower_items p d k items).items
    made_items c.none live block result br co ca d k t le w m = tt
    made_items (c.more item rest) live block result br co ca d k (t, ts) le w m = (
      made_stmt item live block result br co ca d k t le
          (made.first P asks lo (stmt_calls item) (item_calls rest) (stmt_reads_input item) (items_read_input rest) (made.front P asks lo (stmt_checks p item) (item_checks p rest) w))
          (marked_first (loops_of item) (loops_in rest) (marks_of item) (marks_in rest) m),
      made_items rest live block result br co ca d k ts le
          (made.second P asks lo (stmt_calls item) (item_calls rest) (stmt_reads_input item) (items_read_input rest) (made.back P asks lo (stmt_checks p item) (item_checks p rest) w))
          (marked_second (loops_of item) (loops_in rest) (marks_of item) (marks_in rest) m),
    )
