-- Switches of lowered code have one default at most, as those of the source do.
use Rattle.std.proofs.Common.{◌≡◌, ℕ, zero, suc, ◌+◌, ◌≤◌, List, [], ◌∷◌, Option, Some, None, Bool, true, false, refl, sym, ap, ◌∙◌, subst, arith}
use Rattle.std.specs.Prelude.{IfSome, option_map, if◌then◌else◌, slice_get}
use Rattle.c_syntax.specs.declared.program.Plan.{Plan}
use Rattle.c_syntax.specs.TypedExpr.{TExprTree}
use Rattle.c_syntax.specs.TypedStmt as c
use Rattle.c_syntax.specs.TypedStmt.{TInitTree, TStmtTree, TStmtTrees}
use Rattle.c_syntax.specs.Program.{TFunctionTree, TProgramTree}
use Rattle.c_layout.specs.Jumps.{defaults_among}
use Rattle.c_layout.specs.TypedNodes.{Standing, in_block, in_switch, in_loop, IsTypedStmt, AreTypedItems}
use Rattle.block_mem.specs.declared.types.Scalar.{Scalar}
use Rattle.c_objects.specs.Opening.{size_of}
use Rattle.c_objects.specs.Writing.{is_named}
use Rattle.c_steps_laws.specs.Fits.{Runs}
use Rattle.csharp.specs.Trees.{CsStmtTree, Nothing, Set, Load, Store, CopyBytes, Undefine, Checked, Input, Assume, Sequence, If, Loop, Block, Exit, Scope, Switch, Goto, Call, Return, Label, Case, Default, CsStmtTrees, none, more, CsFunctionTree}
use Rattle.csharp.specs.Formed.{Around, Each, nothing_around}
use Rattle.csharp.specs.Meaning.{AtDefault, has, is_mark}
use Rattle.lower_trees.specs.Zeros.{zero_cells, object_scalars}
use Rattle.lower_trees.specs.LowerExpr.{lower_expr}
use Rattle.lower_trees.specs.LowerStmt.{Context, InLoop, InSwitch, Past, rest_code, inits_code, test_of, step_of, with_last, lower_stmt, lower_items}
use Rattle.lower_trees.specs.LowerProgram.{function_in, param_temps}
use Rattle.lower_formed.specs.Every.{Every, EveryItem}
use Rattle.lower_formed.proofs.Bodied.{body_every}
use Rattle.lower_formed.proofs.Each.{each_map, every_each, function_at}
use Rattle.lower_formed.proofs.Flat.{Flat, flat_expr}
use Rattle.lower_formed.proofs.Placing.{Bodied, all, q, bodiless, code, run_body, stands_at}
use Rattle.lower_formed.proofs.Scopes.{OpensNothing, flat_every}
use Rattle.analyzer.specs.Straight.{AreDefaultsOnce, HaveOneDefault, IsDefaultOnce}
use Rattle.lower_exact_laws.specs.Laws.{LoweredHasOneDefault}

-- what is around a statement does not matter
abbrev Once : CsStmtTree → Type 0
Once a = IsDefaultOnce nothing_around a

once_around : (around : Around) (a : CsStmtTree) → Once a → IsDefaultOnce around a
once_around around (Switch e xs items) h = h
once_around around (Scope xs items) h = tt
once_around around Nothing h = tt
once_around around (Set d e) h = tt
once_around around (Load d ty e) h = tt
once_around around (Store ty e f) h = tt
once_around around (CopyBytes n e f) h = tt
once_around around (Undefine x) h = tt
once_around around (Checked k) h = tt
once_around around (Input d t) h = tt
once_around around (Assume e) h = tt
once_around around (Sequence a b) h = tt
once_around around (If e a b) h = tt
once_around around (Loop at a) h = tt
once_around around (Block a) h = tt
once_around around (Exit k) h = tt
once_around around (Goto l) h = tt
once_around around (Call k) h = tt
once_around around (Return e) h = tt
once_around around (Label at l) h = tt
once_around around (Case k) h = tt
once_around around Default h = tt

-- what holds of all but scopes and switches
once_else : (a : CsStmtTree) → OpensNothing a → Once a
once_else (Scope xs items) h = absurd h
once_else (Switch e xs items) h = absurd h
once_else Nothing h = tt
once_else (Set d e) h = tt
once_else (Load d ty e) h = tt
once_else (Store ty e f) h = tt
once_else (CopyBytes n e f) h = tt
once_else (Undefine x) h = tt
once_else (Checked k) h = tt
once_else (Input d t) h = tt
once_else (Assume e) h = tt
once_else (Sequence a b) h = tt
once_else (If e a b) h = tt
once_else (Loop at a) h = tt
once_else (Block a) h = tt
once_else (Exit k) h = tt
once_else (Goto l) h = tt
once_else (Call k) h = tt
once_else (Return e) h = tt
once_else (Label at l) h = tt
once_else (Case k) h = tt
once_else Default h = tt

flat_once : (a : CsStmtTree) → Flat a → Every Once a
flat_once a h = flat_every Once HaveOneDefault once_else (λ xs items k. tt) (λ e xs items k. k) a h

-- ---- the items of a switch

-- flat code is no default
not_default : (a : CsStmtTree) → Flat a → is_mark AtDefault a ≡ false
not_default Default h = absurd h
not_default Nothing h = refl
not_default (Set d e) h = refl
not_default (Load d ty e) h = refl
not_default (Store ty e f) h = refl
not_default (CopyBytes n e f) h = refl
not_default (Undefine x) h = refl
not_default (Checked k) h = refl
not_default (Input d t) h = refl
not_default (Assume e) h = refl
not_default (Sequence a b) h = refl
not_default (If e a b) h = refl
not_default (Loop at a) h = refl
not_default (Block a) h = refl
not_default (Exit k) h = refl
not_default (Scope xs items) h = refl
not_default (Switch e xs items) h = refl
not_default (Goto l) h = refl
not_default (Call k) h = refl
not_default (Return e) h = refl
not_default (Label at l) h = refl
not_default (Case k) h = refl

-- an item is a default, or its code is none and it counts for none
data Seen (p : TProgramTree) (d : ℕ) (k : Context) (item : TStmtTree) : Type 0 where
  is_default : (at : _) → item ≡ c.Default at → Seen p d k item
  is_other : is_mark AtDefault (lower_stmt p d k item).code ≡ false → ((rest : TStmtTrees) → defaults_among (c.more item rest) ≡ defaults_among rest) → Seen p d k item

seen : (p : TProgramTree) (d : ℕ) (k : Context) (item : TStmtTree) → Seen p d k item
unfolding defaults_among
seen p d k (c.Default at) = is_default at refl
seen p d k (c.Expr at e) = is_other (not_default (lower_expr p d e).value.before (flat_expr p e d).value) (λ rest. refl)
seen p d k (c.Empty at) = is_other refl (λ rest. refl)
seen p d k (c.Block at kind xs items) = is_other refl (λ rest. refl)
seen p d k (c.Declare at x inits z) = is_other refl (λ rest. refl)
seen p d k (c.Static at x) = is_other refl (λ rest. refl)
seen p d k (c.If at e a b) = is_other refl (λ rest. refl)
seen p d k (c.While at e b) = is_other refl (λ rest. refl)
seen p d k (c.DoWhile at b e) = is_other refl (λ rest. refl)
seen p d k (c.For at xs head e step b) = is_other refl (λ rest. refl)
seen p d k (c.Switch at e kind xs items) = is_other refl (λ rest. refl)
seen p d k (c.Break at) = is_other refl (λ rest. refl)
seen p d k (c.Continue at) = is_other refl (λ rest. refl)
seen p d k (c.Goto at l) = is_other refl (λ rest. refl)
seen p d k (c.Return at None) = is_other refl (λ rest. refl)
seen p d k (c.Return at (Some e)) = is_other refl (λ rest. refl)
seen p d k (c.Label at l) = is_other refl (λ rest. refl)
seen p d k (c.Case at j) = is_other refl (λ rest. refl)

counts : (at : _) (rest : TStmtTrees) → defaults_among (c.more (c.Default at) rest) ≡ 1 + defaults_among rest
unfolding defaults_among
counts at rest = refl

module _ (p : TProgramTree) (d : ℕ) (k : Context) where
  abbrev items_code : TStmtTrees → CsStmtTrees
  items_code items = (lower_items p d k items).items

  -- where no default stands, none is among the code
  abbrev HaveNone : TStmtTrees → Type 0
  HaveNone items = defaults_among items ≡ 0 → has AtDefault (items_code items) ≡ false

  one_more : (item : TStmtTree) (rest : TStmtTrees) (at : _) → item ≡ c.Default at → defaults_among (c.more item rest) ≡ 1 + defaults_among rest
  one_more item rest at is = ap (λ z. defaults_among (c.more z rest)) is ∙ counts at rest

  none_before : (item : TStmtTree) (rest : TStmtTrees) → Seen p d k item → HaveNone rest → HaveNone (c.more item rest)
  none_before item rest (is_default at is) behind e = let m = one_more item rest at is in absurd (omega (arith, e, m))
  none_before item rest (is_other mark same) behind e = ap (λ b. if b then true else has AtDefault (items_code rest)) mark ∙ behind (sym (same rest) ∙ e)

  have_none : (items : TStmtTrees) → HaveNone items
  have_none c.none e = refl
  have_none (c.more item rest) e = none_before item rest (seen p d k item) (have_none rest) e

  -- where at most one stands, at most one is
  abbrev HaveOne : TStmtTrees → Type 0
  HaveOne items = defaults_among items ≤ 1 → HaveOneDefault (items_code items)

  one_before : (item : TStmtTree) (rest : TStmtTrees) → Seen p d k item → HaveOne rest → HaveOne (c.more item rest)
  one_before item rest (is_default at is) behind le =
      let m = one_more item rest at is in ((λ marked. have_none rest (omega (arith, le, m))), behind (omega (arith, le, m)))
  one_before item rest (is_other mark same) behind le =
      let e = same rest in ((λ marked. absurd (let z : true ≡ false = sym marked ∙ mark in cc)), behind (omega (arith, le, e)))

  have_one : (items : TStmtTrees) → HaveOne items
  have_one c.none le = tt
  have_one (c.more item rest) le = one_before item rest (seen p d k item) (have_one rest) le

-- ---- code

either : (z : Bool) (a b : CsStmtTrees) → EveryItem Once a → EveryItem Once b → EveryItem Once (if z then a else b)
either true a b h k = h
either false a b h k = k

cells_once : (at : ℕ → Option Scalar) (named : ℕ → Bool) (x left skip k : ℕ) → EveryItem Once (zero_cells at named x k skip left none)
cells_once at named x zero skip k = tt
cells_once at named x (suc left) (suc skip) k = cells_once at named x left skip (suc k)
cells_once at named x (suc left) zero k = either (named k) _ _ (cells_once at named x left zero (suc k)) (tt, cells_once at named x left _ (suc k))

last_once : (items : CsStmtTrees) (a : CsStmtTree) → EveryItem Once items → Every Once a → EveryItem Once (with_last items a)
last_once none a h k = (k, tt)
last_once (more item rest) a h k = (h.0, last_once rest a h.1 k)

module _ (p : TProgramTree) where
  rest_once : (x : ℕ) (inits : List TInitTree) (z : Bool) → EveryItem Once (rest_code p x inits z)
  rest_once x inits true = cells_once (object_scalars p x) (is_named inits) x (size_of p.objects x) 0 0
  rest_once x inits false = tt

  inits_once : (d x : ℕ) (inits : List TInitTree) (rest : CsStmtTrees) → EveryItem Once rest → EveryItem Once (inits_code p d x inits rest)
  inits_once d x [] rest h = h
  inits_once d x (c.Store offset ty e ∷ inits) rest h = ((tt, flat_once _ (flat_expr p e d).value, tt), inits_once d x inits rest h)
  inits_once d x (c.Copy offset extent e ∷ inits) rest h = ((tt, flat_once _ ((flat_expr p e d).source extent.size extent.align), tt), inits_once d x inits rest h)

  test_once : (d : ℕ) (at : _) (o : Option TExprTree) → Every Once (test_of p d at o).code
  test_once d at None = tt
  test_once d at (Some e) = flat_once _ ((flat_expr p e d).unless at 0)

  step_once : (d : ℕ) (o : Option TExprTree) → Every Once (step_of p d o).code
  step_once d None = tt
  step_once d (Some e) = flat_once _ (flat_expr p e d).value

  mutual
    unfolding IsTypedStmt

    once_stmt : (b : TStmtTree) (stands : Standing) (d : ℕ) (k : Context) → IsTypedStmt stands b → Every Once (lower_stmt p d k b).code
    once_stmt (c.Empty at) stands d k t = tt
    once_stmt (c.Expr at e) stands d k t = flat_once _ (flat_expr p e d).value
    once_stmt (c.Block at kind xs items) stands d k t = (tt, once_items items (in_block xs stands) d k t)
    once_stmt (c.Declare at x inits z) stands d k t = (tt, (tt, inits_once d x inits (rest_code p x inits z) (rest_once x inits z)))
    once_stmt (c.Static at x) stands d k t = tt
    once_stmt (c.If at e a b) stands d k (te, ba, ta, bb, tb) =
        (tt, (tt, (tt, (tt, flat_once _ ((flat_expr p e d).unless at 0), (tt, once_stmt a stands d (Past (Past k)) ta, tt))), once_stmt b stands d (Past k) tb))
    once_stmt (c.While at e b) stands d k (te, bb, tb) =
        (tt, (tt, (tt, flat_once _ ((flat_expr p e d).unless at 0), (tt, (tt, once_stmt b (in_loop stands) d InLoop tb), tt))))
    once_stmt (c.DoWhile at b e) stands d k (te, bb, tb) =
        (tt, (tt, (tt, (tt, once_stmt b (in_loop stands) d InLoop tb), flat_once _ ((flat_expr p e d).unless at 0))))
    once_stmt (c.For at xs head e step b) stands d k (hd, th, te, ts, bb, tb) = (
      tt,
      last_once (lower_items p d k head).items _ (once_items head (in_block xs stands) d k th)
          (tt, (tt, (tt, test_once d at e, (tt, (tt, once_stmt b (in_loop (in_block xs stands)) d InLoop tb), step_once d step)))),
    )
    once_stmt (c.Switch at e kind xs items) stands d k (te, row, ti) =
        (tt, flat_once _ (flat_expr p e d).value, (tt, (have_one p d (InSwitch k) items row.one_default, once_items items (in_switch xs stands) d (InSwitch k) ti)))
    once_stmt (c.Break at) stands d k t = tt
    once_stmt (c.Continue at) stands d k t = tt
    once_stmt (c.Goto at l) stands d k t = tt
    once_stmt (c.Return at None) stands d k t = tt
    once_stmt (c.Return at (Some e)) stands d k t = (tt, flat_once _ (flat_expr p e d).value, tt)
    once_stmt (c.Label at l) stands d k t = tt
    once_stmt (c.Case at j) stands d k t = tt
    once_stmt (c.Default at) stands d k t = tt

    once_items : (items : TStmtTrees) (stands : Standing) (d : ℕ) (k : Context) → AreTypedItems stands items → EveryItem Once (lower_items p d k items).items
    once_items c.none stands d k t = tt
    once_items (c.more item rest) stands d k (t, ts) = (once_stmt item stands d k t, once_items rest stands d k ts)

-- ---- the program

module _ (p : TProgramTree) (plan : Plan) (runs : Runs p plan) where
  abbrev Kept : ℕ → CsFunctionTree → Type 0
  Kept f function = Each IsDefaultOnce nothing_around function.body

  with_body : (f : ℕ) (b : Bodied p f) → Kept f (record { params = param_temps p (stands_at p plan runs f b).base b.function.params; body = code p plan runs f b })
  with_body f b =
      let s = stands_at p plan runs f b in
      let mine = run_body p plan runs f b in
      each_map (λ around a. Once a) IsDefaultOnce once_around (code p plan runs f b) nothing_around
      (every_each Once (code p plan runs f b) nothing_around
      (body_every Once (λ ty e g. tt) (λ x y. tt) (λ e. tt) p f s.base b.function.params b.body tt (once_stmt p b.body _ s.base InLoop mine.typed.typed)))

  by_body : (f : ℕ) (function : TFunctionTree) (o : Option _) → slice_get p.functions f ≡ Some function → function.body ≡ o → Kept f (function_in (all p plan runs) f)
  by_body f function None e g = subst (Kept f) (sym (bodiless p plan runs f function e g)) tt
  by_body f function (Some body) e g =
      let b : Bodied p f = record { function = function; body = body; found = e; has = g } in
      subst (Kept f) (sym (stands_at p plan runs f b).is) (with_body f b)

  by_function : (f : ℕ) (o : Option TFunctionTree) → slice_get p.functions f ≡ o → IfSome (option_map (λ x. function_in (all p plan runs) f) o) (Kept f)
  by_function f None e = tt
  by_function f (Some function) e = by_body f function function.body e refl

  each : AreDefaultsOnce (q p plan runs)
  each f = subst (λ o. IfSome o (Kept f)) (sym (function_at (all p plan runs) p.functions f)) (by_function f (slice_get p.functions f) refl)

pub lowered_has_one_default : LoweredHasOneDefault
lowered_has_one_default p plan runs = each p plan runs
