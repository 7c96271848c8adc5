-- The checks of what a typed statement is lowered to are made at its sites, and look at what stands there.
use Rattle.std.proofs.Common.{ℕ, zero, suc, List, [], ◌∷◌, ◌++◌, Option, Some, None, Bool, true, false}
use Rattle.std.specs.Prelude.{All, IfSome, if◌then◌else◌}
use Rattle.std.specs.List.{flat_map}
use Rattle.std.proofs.lemmas.List.Elements.{All-head, All-tail}
use Rattle.c_syntax_written.specs.declared.place.Pos.{Pos}
use Rattle.c_syntax.specs.Types.{CTypeTree}
use Rattle.c_syntax.specs.TypedExpr.{TExprTree}
use Rattle.c_syntax.specs.TypedStmt as c
use Rattle.c_syntax.specs.TypedStmt.{TInitTree, TStmtTree, TStmtTrees}
use Rattle.c_syntax.specs.Program.{TProgramTree}
use Rattle.c_layout.specs.TypedNodes.{Standing, IsTypedStmt, AreTypedItems, IsTypedInit, IsTypedCondition, IsTypedExpr, object_type}
use Rattle.c_sites.specs.Sites.{OneOperand, Site, site, sites_of, init_sites, sites_if_there, stmt_sites, item_sites}
use Rattle.block_mem.specs.declared.types.Scalar.{Scalar}
use Rattle.c_objects.specs.Opening.{size_of}
use Rattle.c_objects.specs.Writing.{is_named}
use Rattle.csharp.specs.Trees.{CsStmtTree, Sequence, Loop, Block, CsStmtTrees, none, more}
use Rattle.lower_trees.specs.Zeros.{zero_cells, object_scalars}
use Rattle.lower_trees.specs.LowerExpr.{lower_expr}
use Rattle.lower_trees.specs.LowerStmt.{Context, InLoop, InSwitch, Past, init_code, rest_code, inits_code, test_of, step_of, with_last, lower_stmt, lower_items}
use Rattle.lower_formed.specs.Every.{EveryItem}
use Rattle.lower_sites_laws.specs.Looks.{IsSited}
use Rattle.lower_sites_laws.proofs.Parts as parts
use Rattle.lower_sites_laws.proofs.Exprs.{sited_expr}

module _ (all : List Site) (p : TProgramTree) where
  abbrev St : List ℕ → List ℕ → CTypeTree → Bool → Bool → Bool → Standing
  St live block result breaks continues cases =
      record { scope = record { program = p; live = live }; block = block; result = result; breaks = breaks; continues = continues; cases = cases }

  abbrev E : CsStmtTree → Type 0
  E a = parts.E all a

  abbrev EI : CsStmtTrees → Type 0
  EI items = EveryItem (IsSited all) items

  abbrev W : List Site → Type 0
  W xs = parts.Within all xs

  abbrev this : Pos → Site
  this at = site at OneOperand

  either : (z : Bool) (a b : CsStmtTrees) → EI a → EI b → EI (if z then a else b)
  either true a b h k = h
  either false a b h k = k

  zeros_sited : (at : ℕ → Option Scalar) (named : ℕ → Bool) (x left skip k : ℕ) (rest : CsStmtTrees) → EI rest → EI (zero_cells at named x k skip left rest)
  zeros_sited at named x zero skip k rest h = h
  zeros_sited at named x (suc left) (suc skip) k rest h = zeros_sited at named x left skip (suc k) rest h
  zeros_sited at named x (suc left) zero k rest h = either (named k) _ _ (zeros_sited at named x left zero (suc k) rest h) (tt, zeros_sited at named x left _ (suc k) rest h)

  rest_sited : (x : ℕ) (inits : List TInitTree) (z : Bool) → EI (rest_code p x inits z)
  rest_sited x inits true = zeros_sited (object_scalars p x) (is_named inits) x (size_of p.objects x) 0 0 none tt
  rest_sited x inits false = tt

  last_sited : (items : CsStmtTrees) (a : CsStmtTree) → EI items → E a → EI (with_last items a)
  last_sited none a h k = (k.is, tt)
  last_sited (more item rest) a (h, hs) k = (h, last_sited rest a hs k)

  test_sited : (e : TExprTree) (live : List ℕ) (d : ℕ) (at : Pos) (k : ℕ) → IsTypedCondition (record { program = p; live = live }) e → W (sites_of e) → parts.Here all at OneOperand
      → E ((lower_expr p d e).unless at k)
  test_sited e live d at k (te, sc) w here = (sited_expr all p e live true d te w).unless at k here

  value_sited : (e : TExprTree) (live : List ℕ) (mark : Bool) (d : ℕ) → IsTypedExpr (record { program = p; live = live }) mark e → W (sites_of e) → E (lower_expr p d e).value.before
  value_sited e live mark d te w = (sited_expr all p e live mark d te w).value

  turn_sited : (o : Option TExprTree) (live : List ℕ) (d : ℕ) (at : Pos) → IfSome o (IsTypedCondition (record { program = p; live = live })) → W (sites_if_there o)
      → parts.Here all at OneOperand → E (test_of p d at o).code
  turn_sited None live d at t w here = record { is = tt }
  turn_sited (Some e) live d at t w here = test_sited e live d at 0 t w here

  step_sited : (o : Option TExprTree) (live : List ℕ) (d : ℕ) → IfSome o (IsTypedExpr (record { program = p; live = live }) false) → W (sites_if_there o) → E (step_of p d o).code
  step_sited None live d t w = record { is = tt }
  step_sited (Some e) live d t w = value_sited e live false d t w

  init_sited : (init : TInitTree) (live : List ℕ) (x d : ℕ) → IsTypedInit (record { program = p; live = live }) (object_type p x) init → W (init_sites init) → E (init_code p d x init).code
  init_sited (c.Store offset ty e) live x d t w = parts.seq all _ _ (value_sited e live true d t.0 w) (record { is = tt })
  init_sited (c.Copy offset extent e) live x d t w = parts.seq all _ _ ((sited_expr all p e live true d t.0 w).source extent.size extent.align) (record { is = tt })

  inits_sited : (inits : List TInitTree) (live : List ℕ) (x d : ℕ) (rest : CsStmtTrees) → All (λ init. IsTypedInit (record { program = p; live = live }) (object_type p x) init) inits
      → W (flat_map init_sites inits) → EI rest → EI (inits_code p d x inits rest)
  inits_sited [] live x d rest t w h = h
  inits_sited (init ∷ inits) live x d rest t w h = (
    (init_sited init live x d (All-head (λ i. IsTypedInit (record { program = p; live = live }) (object_type p x) i) init inits t) (parts.left all (init_sites init) (flat_map init_sites inits) w)).is,
    inits_sited inits live x d rest (All-tail (λ i. IsTypedInit (record { program = p; live = live }) (object_type p x) i) init inits t)
        (parts.right all (init_sites init) (flat_map init_sites inits) w) h,
  )

  -- a loop, whose turn is a test, the body and a step
  loop_sited : (at : Pos) (test body step : CsStmtTree) → E test → E body → E step → E (Block (Loop at (Sequence test (Sequence (Block body) step))))
  loop_sited at test body step h k l =
      parts.block all _ (record { is = (tt, (parts.seq all test (Sequence (Block body) step) h (parts.seq all (Block body) step (parts.block all body k) l)).is) })

  mutual
    unfolding IsTypedStmt stmt_sites

    pub sited_stmt : (b : TStmtTree) (live block : List ℕ) (result : CTypeTree) (br co ca : Bool) (d : ℕ) (k : Context) → IsTypedStmt (St live block result br co ca) b
        → W (stmt_sites b) → E (lower_stmt p d k b).code
    sited_stmt (c.Empty at) live block result br co ca d k t w = record { is = tt }
    sited_stmt (c.Expr at e) live block result br co ca d k t w = value_sited e live false d t w
    sited_stmt (c.Block at kind xs items) live block result br co ca d k t w = record { is = (tt, sited_items items (xs ++ live) xs result br co false d k t w) }
    sited_stmt (c.Declare at x inits z) live block result br co ca d k (here, t) w = record { is = (tt, (tt, inits_sited inits live x d (rest_code p x inits z) t.typed w (rest_sited x inits z))) }
    sited_stmt (c.Static at x) live block result br co ca d k t w = record { is = tt }
    sited_stmt (c.If at e a b) live block result br co ca d k (te, ba, ta, bb, tb) w =
        let v = parts.rest all (this at) (sites_of e ++ (stmt_sites a ++ stmt_sites b)) w in
        let u = parts.right all (sites_of e) (stmt_sites a ++ stmt_sites b) v in
        parts.branches all ((lower_expr p d e).unless at 0) (lower_stmt p d (Past (Past k)) a).code (lower_stmt p d (Past k) b).code
        (test_sited e live d at 0 te (parts.left all (sites_of e) (stmt_sites a ++ stmt_sites b) v) (parts.head all (this at) (sites_of e ++ (stmt_sites a ++ stmt_sites b)) w))
        (sited_stmt a live block result br co ca d (Past (Past k)) ta (parts.left all (stmt_sites a) (stmt_sites b) u))
        (sited_stmt b live block result br co ca d (Past k) tb (parts.right all (stmt_sites a) (stmt_sites b) u))
    sited_stmt (c.While at e b) live block result br co ca d k (te, bb, tb) w =
        let v = parts.rest all (this at) (sites_of e ++ stmt_sites b) w in
        loop_sited at _ _ _
        (test_sited e live d at 0 te (parts.left all (sites_of e) (stmt_sites b) v) (parts.head all (this at) (sites_of e ++ stmt_sites b) w))
        (sited_stmt b live block result true true false d InLoop tb (parts.right all (sites_of e) (stmt_sites b) v))
        (record { is = tt })
    sited_stmt (c.DoWhile at b e) live block result br co ca d k (te, bb, tb) w =
        let v = parts.rest all (this at) (stmt_sites b ++ sites_of e) w in
        let turn = parts.seq all (Block (lower_stmt p d InLoop b).code) ((lower_expr p d e).unless at 0)
        (parts.block all _ (sited_stmt b live block result true true false d InLoop tb (parts.left all (stmt_sites b) (sites_of e) v)))
        (test_sited e live d at 0 te (parts.right all (stmt_sites b) (sites_of e) v) (parts.head all (this at) (stmt_sites b ++ sites_of e) w)) in
        parts.block all _ (record { is = (tt, turn.is) })
    sited_stmt (c.For at xs head e step b) live block result br co ca d k (hd, th, te, ts, bb, tb) w =
        let s1 = item_sites head in
        let s2 = sites_if_there e in
        let s3 = sites_if_there step in
        let s4 = stmt_sites b in
        let v = parts.rest all (this at) (s1 ++ (s2 ++ (s3 ++ s4))) w in
        let v2 = parts.right all s1 (s2 ++ (s3 ++ s4)) v in
        let v3 = parts.right all s2 (s3 ++ s4) v2 in record {
          is = (
            tt,
            last_sited (lower_items p d k head).items _ (sited_items head (xs ++ live) xs result br co false d k th (parts.left all s1 (s2 ++ (s3 ++ s4)) v))
                (loop_sited at _ _ _ (turn_sited e (xs ++ live) d at te (parts.left all s2 (s3 ++ s4) v2) (parts.head all (this at) (s1 ++ (s2 ++ (s3 ++ s4))) w))
                (sited_stmt b (xs ++ live) xs result true true false d InLoop tb (parts.right all s3 s4 v3)) (step_sited step (xs ++ live) d ts (parts.left all s3 s4 v3))),
          );
        }
    sited_stmt (c.Switch at e kind xs items) live block result br co ca d k (te, row, ti) w =
        parts.seq all _ _ (value_sited e live true d te (parts.left all (sites_of e) (item_sites items) w))
        (parts.block all _ (record { is = (tt, sited_items items (xs ++ live) xs result true co true d (InSwitch k) ti (parts.right all (sites_of e) (item_sites items) w)) }))
    sited_stmt (c.Break at) live block result br co ca d k t w = record { is = tt }
    sited_stmt (c.Continue at) live block result br co ca d k t w = record { is = tt }
    sited_stmt (c.Goto at l) live block result br co ca d k t w = record { is = tt }
    sited_stmt (c.Return at None) live block result br co ca d k t w = record { is = tt }
    sited_stmt (c.Return at (Some e)) live block result br co ca d k (te, row) w = parts.seq all _ _ (value_sited e live true d te w) (record { is = tt })
    sited_stmt (c.Label at l) live block result br co ca d k t w = record { is = tt }
    sited_stmt (c.Case at j) live block result br co ca d k t w = record { is = tt }
    sited_stmt (c.Default at) live block result br co ca d k t w = record { is = tt }

    sited_items : (items : TStmtTrees) (live block : List ℕ) (result : CTypeTree) (br co ca : Bool) (d : ℕ) (k : Context) → AreTypedItems (St live block result br co ca) items
        → W (item_sites items) → EI (lower_items p d k items).items
    sited_items c.none live block result br co ca d k t w = tt
    sited_items (c.more item rest) live block result br co ca d k (t, ts) w = (
      (sited_stmt item live block result br co ca d k t (parts.left all (stmt_sites item) (item_sites rest) w)).is,
      sited_items rest live block result br co ca d k ts (parts.right all (stmt_sites item) (item_sites rest) w),
    )
