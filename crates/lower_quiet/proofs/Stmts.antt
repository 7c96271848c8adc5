-- What statements are lowered to sets its own rows.
use Rattle.std.proofs.Common.{ℕ, zero, suc, ◌*◌, ◌≤◌, List, [], ◌∷◌, ◌++◌, Option, Some, None, Bool, true, false, max, arith}
use Rattle.std.specs.Prelude.{Contains, if◌then◌else◌}
use Rattle.std.specs.List.{flat_map}
use Rattle.std.proofs.Math.Nat.{le-max_left, le-max_right}
use Rattle.std.proofs.lemmas.List.Elements.{Contains-append_left, Contains-append_right}
use Rattle.c_syntax_written.specs.declared.place.Pos.{Pos}
use Rattle.c_syntax.specs.TypedExpr.{TExprTree}
use Rattle.c_syntax.specs.TypedStmt as c
use Rattle.c_syntax.specs.TypedStmt.{TInitTree, TStmtTree, TStmtTrees}
use Rattle.c_syntax.specs.Program.{TProgramTree}
use Rattle.c_layout.specs.Calls.{PlacedCall, calls_of, init_calls, calls_if_there, stmt_calls, item_calls}
use Rattle.block_mem.specs.declared.types.Scalar.{Scalar}
use Rattle.c_objects.specs.Opening.{size_of}
use Rattle.c_objects.specs.Writing.{is_named}
use Rattle.csharp.specs.Trees.{CsStmtTree, Nothing, CsStmtTrees, none, more}
use Rattle.lower_trees.specs.Zeros.{zero_cells, object_scalars}
use Rattle.lower_trees.specs.LowerExpr.{Lowered, lower_expr}
use Rattle.lower_trees.specs.LowerStmt.{Context, InLoop, InSwitch, Past, Coded, coded, Items, init_code, rest_code, inits_code, inits_top, test_of, step_of, loop_code, do_code, with_last, lower_stmt, lower_items}
use Rattle.lower_formed.specs.Every.{EveryItem}
use Rattle.lower_quiet.specs.Quiet.{Puts, Quiet}
use Rattle.lower_quiet.proofs.Puts.{wider, wider_in}
use Rattle.lower_quiet.proofs.Exprs.{E, quiet_expr}

module _ (Low : ℕ → Type 0) where
  abbrev pub EI : ℕ → ℕ → CsStmtTrees → Type 0
  EI d m items = EveryItem (Puts (12 * d) (12 * m) Low) items

  pub record QuietCode (d : ℕ) (a : Coded) : Type 0 where
    pub top : d ≤ a.top
    pub code : E Low d a.top a.code

  pub record QuietItems (d : ℕ) (a : Items) : Type 0 where
    pub top : d ≤ a.top
    pub items : EI d a.top a.items

  more_rows : (d k m : ℕ) → k ≤ m → (a : CsStmtTree) → E Low d k a → E Low d m a
  more_rows d k m le a h = wider Low d k d m (omega arith) le a h

  more_items : (d k m : ℕ) → k ≤ m → (items : CsStmtTrees) → EI d k items → EI d m items
  more_items d k m le items h = wider_in Low d k d m (omega arith) le items h

  abbrev Allowed : List PlacedCall → Type 0
  Allowed ks = (k : PlacedCall) → Contains ks k → Low k.callee

  left : (xs ys : List PlacedCall) → Allowed (xs ++ ys) → Allowed xs
  left xs ys h k m = h k (Contains-append_left xs ys k m)

  right : (xs ys : List PlacedCall) → Allowed (xs ++ ys) → Allowed ys
  right xs ys h k m = h k (Contains-append_right xs ys k m)

  effect_quiet : (d : ℕ) (a : Lowered) → Quiet Low d a → QuietCode d (coded a.before a.top)
  effect_quiet d a h = let x = h.next in let y = h.top in record { top = omega (arith, x, y); code = h.before }

  -- two parts in the rows of both
  both : (d : ℕ) (a b : Coded) → QuietCode d a → QuietCode d b → (d ≤ max a.top b.top) × E Low d (max a.top b.top) a.code × E Low d (max a.top b.top) b.code
  both d a b h k =
      let l = le-max_left a.top b.top in
      let r = le-max_right a.top b.top in
      let x = h.top in
      (omega (arith, l, x), more_rows d a.top (max a.top b.top) l a.code h.code, more_rows d b.top (max a.top b.top) r b.code k.code)

  loop_quiet : (d : ℕ) (at : Pos) (test body step : Coded) → QuietCode d test → QuietCode d body → QuietCode d step → QuietCode d (loop_code at test body step)
  loop_quiet d at test body step h k l =
      let m = max test.top (max body.top step.top) in
      let x = le-max_left test.top (max body.top step.top) in
      let y = le-max_right test.top (max body.top step.top) in
      let u = le-max_left body.top step.top in
      let v = le-max_right body.top step.top in
      let t = h.top in
      record {
        top = omega (arith, t, x);
        code = (
          tt,
          (
            tt,
            (
              tt,
              more_rows d test.top m x test.code h.code,
              (tt, (tt, more_rows d body.top m (omega (arith, u, y)) body.code k.code), more_rows d step.top m (omega (arith, v, y)) step.code l.code),
            ),
          ),
        );
      }

  do_quiet : (d : ℕ) (at : Pos) (test body : Coded) → QuietCode d test → QuietCode d body → QuietCode d (do_code at test body)
  do_quiet d at test body h k =
      let b = both d test body h k in
      record { top = b.0; code = (tt, (tt, (tt, (tt, b.2), b.1))) }

  either : (d m : ℕ) (z : Bool) (a b : CsStmtTrees) → EI d m a → EI d m b → EI d m (if z then a else b)
  either d m true a b h k = h
  either d m false a b h k = k

  cells_quiet : (d m : ℕ) (at : ℕ → Option Scalar) (named : ℕ → Bool) (x rest skip k : ℕ) → EI d m (zero_cells at named x k skip rest none)
  cells_quiet d m at named x zero skip k = tt
  cells_quiet d m at named x (suc rest) (suc skip) k = cells_quiet d m at named x rest skip (suc k)
  cells_quiet d m at named x (suc rest) zero k = either d m (named k) _ _ (cells_quiet d m at named x rest zero (suc k)) (tt, cells_quiet d m at named x rest _ (suc k))

  module _ (p : TProgramTree) where
    rest_quiet : (d m x : ℕ) (inits : List TInitTree) (z : Bool) → EI d m (rest_code p x inits z)
    rest_quiet d m x inits true = cells_quiet d m (object_scalars p x) (is_named inits) x (size_of p.objects x) 0 0
    rest_quiet d m x inits false = tt

    value_quiet : (e : TExprTree) (d : ℕ) → Allowed (calls_of e) → QuietCode d (coded (lower_expr p d e).value.before (lower_expr p d e).value.top)
    value_quiet e d may = effect_quiet d (lower_expr p d e).value (quiet_expr Low p e d may).value

    init_quiet : (init : TInitTree) (d x : ℕ) → Allowed (init_calls init) → QuietCode d (init_code p d x init)
    init_quiet (c.Store offset ty e) d x may = let h = value_quiet e d may in record { top = h.top; code = (tt, h.code, tt) }
    init_quiet (c.Copy offset extent e) d x may =
        let h = effect_quiet d ((lower_expr p d e).source extent.size extent.align) ((quiet_expr Low p e d may).source extent.size extent.align) in record { top = h.top; code = (tt, h.code, tt) }

    -- the items of an initialiser in front of others
    inits_quiet : (inits : List TInitTree) (d x : ℕ) (rest : CsStmtTrees) → ((m : ℕ) → EI d m rest) → Allowed (flat_map init_calls inits)
        → (d ≤ inits_top p d x inits) × ((m : ℕ) → inits_top p d x inits ≤ m → EI d m (inits_code p d x inits rest))
    inits_quiet [] d x rest h may = (omega arith, λ m le. h m)
    inits_quiet (init ∷ inits) d x rest h may =
        let own = init_quiet init d x (left (init_calls init) (flat_map init_calls inits) may) in
        let others = inits_quiet inits d x rest h (right (init_calls init) (flat_map init_calls inits) may) in
        let l = le-max_left (init_code p d x init).top (inits_top p d x inits) in
        let r = le-max_right (init_code p d x init).top (inits_top p d x inits) in
        let t = own.top in
        (omega (arith, l, t), λ m le. (more_rows d (init_code p d x init).top m (omega (arith, l, le)) (init_code p d x init).code own.code, others.1 m (omega (arith, r, le))))

    test_quiet : (d : ℕ) (at : Pos) (o : Option TExprTree) → Allowed (calls_if_there o) → QuietCode d (test_of p d at o)
    test_quiet d at None may = record { top = omega arith; code = tt }
    test_quiet d at (Some e) may = let h = quiet_expr Low p e d may in let x = h.value.next in let y = h.value.top in record { top = omega (arith, x, y); code = h.unless at 0 }

    step_quiet : (d : ℕ) (o : Option TExprTree) → Allowed (calls_if_there o) → QuietCode d (step_of p d o)
    step_quiet d None may = record { top = omega arith; code = tt }
    step_quiet d (Some e) may = value_quiet e d may

    last_quiet : (d m : ℕ) (items : CsStmtTrees) (a : CsStmtTree) → EI d m items → E Low d m a → EI d m (with_last items a)
    last_quiet d m none a h k = (k, tt)
    last_quiet d m (more item rest) a h k = (h.0, last_quiet d m rest a h.1 k)

    mutual
      unfolding stmt_calls

      pub quiet_stmt : (b : TStmtTree) (d : ℕ) (k : Context) → Allowed (stmt_calls b) → QuietCode d (lower_stmt p d k b)
      quiet_stmt (c.Empty at) d k may = record { top = omega arith; code = tt }
      quiet_stmt (c.Expr at e) d k may = value_quiet e d may
      quiet_stmt (c.Block at kind xs items) d k may = let h = quiet_items items d k may in record { top = h.top; code = (tt, h.items) }
      quiet_stmt (c.Declare at x inits z) d k may =
          let h = inits_quiet inits d x (rest_code p x inits z) (λ m. rest_quiet d m x inits z) may in
          record { top = h.0; code = (tt, (tt, h.1 (inits_top p d x inits) (omega arith))) }
      quiet_stmt (c.Static at x) d k may = record { top = omega arith; code = tt }
      quiet_stmt (c.If at e a b) d k may =
          let front = left (calls_of e ++ stmt_calls a) (stmt_calls b) may in
          let he = test_quiet d at (Some e) (left (calls_of e) (stmt_calls a) front) in
          let ha = quiet_stmt a d (Past (Past k)) (right (calls_of e) (stmt_calls a) front) in
          let hb = quiet_stmt b d (Past k) (right (calls_of e ++ stmt_calls a) (stmt_calls b) may) in
          let te = (lower_expr p d e).value.top in
          let la = lower_stmt p d (Past (Past k)) a in
          let lb = lower_stmt p d (Past k) b in
          let m = max te (max la.top lb.top) in
          let x = le-max_left te (max la.top lb.top) in
          let y = le-max_right te (max la.top lb.top) in
          let u = le-max_left la.top lb.top in
          let v = le-max_right la.top lb.top in
          let t = he.top in
          record {
            top = omega (arith, t, x);
            code = (
              tt,
              (
                tt,
                (tt, (tt, more_rows d te m x ((lower_expr p d e).unless at 0) he.code, (tt, more_rows d la.top m (omega (arith, u, y)) la.code ha.code, tt))),
                more_rows d lb.top m (omega (arith, v, y)) lb.code hb.code,
              ),
            );
          }
      quiet_stmt (c.While at e b) d k may =
          loop_quiet d at (test_of p d at (Some e)) (lower_stmt p d InLoop b) (coded Nothing d) (test_quiet d at (Some e) (left (calls_of e) (stmt_calls b) may))
          (quiet_stmt b d InLoop (right (calls_of e) (stmt_calls b) may)) (record { top = omega arith; code = tt })
      quiet_stmt (c.DoWhile at b e) d k may =
          do_quiet d at (test_of p d at (Some e)) (lower_stmt p d InLoop b) (test_quiet d at (Some e) (right (stmt_calls b) (calls_of e) may)) (quiet_stmt b d InLoop (left (stmt_calls b) (calls_of e) may))
      quiet_stmt (c.For at xs head e step b) d k may =
          let k1 = item_calls head in
          let k2 = calls_if_there e in
          let k3 = calls_if_there step in
          let k4 = stmt_calls b in
          let m3 = left ((k1 ++ k2) ++ k3) k4 may in
          let m2 = left (k1 ++ k2) k3 m3 in
          let hh = quiet_items head d k (left k1 k2 m2) in
          let loop = loop_code at (test_of p d at e) (lower_stmt p d InLoop b) (step_of p d step) in
          let hl = loop_quiet d at (test_of p d at e) (lower_stmt p d InLoop b) (step_of p d step) (test_quiet d at e (right k1 k2 m2)) (quiet_stmt b d InLoop (right ((k1 ++ k2) ++ k3) k4 may))
          (step_quiet d step (right (k1 ++ k2) k3 m3)) in
          let ti = (lower_items p d k head).top in
          let l = le-max_left ti loop.top in
          let r = le-max_right ti loop.top in
          let t = hh.top in
          record {
            top = omega (arith, t, l);
            code = (tt, last_quiet d (max ti loop.top) (lower_items p d k head).items loop.code (more_items d ti (max ti loop.top) l (lower_items p d k head).items hh.items) (more_rows d loop.top (max ti loop.top) r loop.code hl.code));
          }
      quiet_stmt (c.Switch at e kind xs items) d k may =
          let he = value_quiet e d (left (calls_of e) (item_calls items) may) in
          let hi = quiet_items items d (InSwitch k) (right (calls_of e) (item_calls items) may) in
          let te = (lower_expr p d e).value.top in
          let ti = (lower_items p d (InSwitch k) items).top in
          let l = le-max_left te ti in
          let r = le-max_right te ti in
          let t = he.top in
          record {
            top = omega (arith, t, l);
            code = (tt, more_rows d te (max te ti) l (lower_expr p d e).value.before he.code, (tt, (tt, more_items d ti (max te ti) r (lower_items p d (InSwitch k) items).items hi.items)));
          }
      quiet_stmt (c.Break at) d k may = record { top = omega arith; code = tt }
      quiet_stmt (c.Continue at) d k may = record { top = omega arith; code = tt }
      quiet_stmt (c.Goto at l) d k may = record { top = omega arith; code = tt }
      quiet_stmt (c.Return at None) d k may = record { top = omega arith; code = tt }
      quiet_stmt (c.Return at (Some e)) d k may = let h = value_quiet e d may in record { top = h.top; code = (tt, h.code, tt) }
      quiet_stmt (c.Label at l) d k may = record { top = omega arith; code = tt }
      quiet_stmt (c.Case at j) d k may = record { top = omega arith; code = tt }
      quiet_stmt (c.Default at) d k may = record { top = omega arith; code = tt }

      pub quiet_items : (items : TStmtTrees) (d : ℕ) (k : Context) → Allowed (item_calls items) → QuietItems d (lower_items p d k items)
      quiet_items c.none d k may = record { top = omega arith; items = tt }
      quiet_items (c.more item rest) d k may =
          let h = quiet_stmt item d k (left (stmt_calls item) (item_calls rest) may) in
          let g = quiet_items rest d k (right (stmt_calls item) (item_calls rest) may) in
          let ta = (lower_stmt p d k item).top in
          let tb = (lower_items p d k rest).top in
          let l = le-max_left ta tb in
          let r = le-max_right ta tb in
          let t = h.top in
          record { top = omega (arith, t, l); items = (more_rows d ta (max ta tb) l (lower_stmt p d k item).code h.code, more_items d tb (max ta tb) r (lower_items p d k rest).items g.items) }
