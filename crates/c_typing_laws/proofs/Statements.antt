-- Statements are typed.
use Rattle.std.proofs.Common.{◌≡◌, ℕ, ◌≤◌, true, false, List, [], ◌++◌, refl, ap, sym, subst, ◌∙◌, arith}
use Rattle.std.specs.Prelude.{ℤ, IsTrue, Option, None, Some, option_map, IfSome, All, Contains}
use Rattle.std.proofs.lemmas.Option.{none-some}
use Rattle.std.proofs.lemmas.List.Elements.{All-weaker, All-contains_itself, Contains-append_left}
use Rattle.c_syntax_written.specs.declared.place.Pos.{Pos}
use Rattle.c_syntax_written.specs.declared.int_type.IntType.{IntType}
use Rattle.c_syntax_written.specs.Integer.{HasNumber}
use Rattle.c_syntax_written.specs.Written as written
use Rattle.c_syntax_written.specs.WrittenFile.{ForStartTree, StmtTree, BlockItemTrees}
use Rattle.c_syntax.specs.Types.{Int}
use Rattle.c_syntax.specs.TypedExpr.{TExprTree}
use Rattle.c_syntax.specs.TypedParts.{texpr_type}
use Rattle.c_syntax.specs.GivenType.{given_type}
use Rattle.c_syntax.specs.TypedStmt.{TStmtTree, TStmtTrees}
use Rattle.c_syntax.specs.Program.{TProgramTree}
use Rattle.c_layout.specs.Conversion.{promoted}
use Rattle.c_layout.specs.Jumps.{cases_among, defaults_among}
use Rattle.c_layout.specs.ProperTypes.{IsProperType}
use Rattle.c_layout.specs.RowTypes.{IsPromoted}
use Rattle.c_layout.specs.TypedNodes.{Scope, Standing, in_block, in_switch, in_loop, IsTypedExpr, IsTypedCondition, AreHead, SwitchRow, ReturnRow, IsTypedStmt, AreTypedItems}
use Rattle.c_typing.specs.World.{World, Typed}
use Rattle.c_typing.specs.Names.{opened, closed}
use Rattle.c_typing.specs.Rows.{store_row}
use Rattle.c_typing.specs.Context.{Context, inside_block, inside_loop, inside_switch}
use Rattle.c_typing.specs.Settled.{settled_expr, settled_stmt, settled_stmts}
use Rattle.c_typing.specs.Decls.{Made}
use Rattle.c_typing.specs.Stmts.{Switched, one, without_cases}
use Rattle.c_typing.proofs.Changes.{Constants, Any}
use Rattle.c_typing.proofs.Good.{Good}
use Rattle.c_typing.proofs.Reaches as reaches
use Rattle.c_typing.proofs.Reaches.{Reaches, GoesWith, typed_so, enters}
use Rattle.c_typing_laws.specs.StmtSteps.{IsValue, IsCondition, MayCondition, no_condition, a_condition, MayStep, no_step, a_step, IsSwitched, MakesStart, nothing, value, declares, MakesStmt, label, case, default, block, empty, expression, if_alone, if_else, switch_block, switch_one, while, do_while, for, goto, continue, break, return_bare, return_value, MakesItems, no_items, declaration, statement}
use Rattle.c_typing_laws.proofs.Reached.{value_reach, may_condition_reach, may_step_reach, start_reach, decl_reach, stmt_reach, items_reach}
use Rattle.c_typing_laws.specs.TypedValues.{IsTypedValue, last_expr}
use Rattle.c_typing_laws.specs.ExpressionLaws.{AreUsable, EndsFrom}
use Rattle.c_typing_laws.proofs.WholeExpressions as whole
use Rattle.c_typing_laws.proofs.WholeExpressions.{usable_after}
use Rattle.c_typing_laws.proofs.Values.{value_given, as_int_value, as_int_type}
use Rattle.c_typing_laws.proofs.Wide.{promoted_same}
use Rattle.c_typing_laws.proofs.Operators.{scalar_value}
use Rattle.c_typing_laws.proofs.Casts.{dropped}
use Rattle.c_typing_laws.proofs.Stores.{values_are_stored}
use Rattle.c_typing_laws.proofs.Items.{pairs_nil}
use Rattle.c_typing_laws.proofs.Onward.{onward}
use Rattle.c_typing_laws.proofs.Ends.{ends_onward, ends_live, ends_same}
use Rattle.c_typing_laws.proofs.States.{State, state_value, state_condition, state_step, state_start, state_decl, state_stmt, state_labelled, state_cased, state_opened, state_closed}
use Rattle.c_typing_laws.proofs.Sizes.{AreSized, sized_same, sized_calm}
use Rattle.c_typing_laws.proofs.Usable.{usable_shut, usable_inside}
use Rattle.c_typing_laws.proofs.Heads.{head_decl, head_settled, cases_settled, defaults_settled}
use Rattle.c_typing_laws.proofs.Cases.{Cased, Distinct, values_of, count_default, stmt_cased, items_cased}
use Rattle.c_typing_laws.proofs.Declarations.{settled, Lives, lives_split, typed_both, After, decl_typed}

-- what may stand here may stand there
pub record Fits (around : Context) (standing : Standing) : Type 0 where
  pub result : standing.result ≡ around.result
  pub proper : IsProperType standing.scope.program.structs around.result
  pub breaks : around.breaks ≡ true → IsTrue standing.breaks
  pub continues : around.continues ≡ true → IsTrue standing.continues
  pub cases : (t : IntType) → around.switch ≡ Some t → IsTrue standing.cases

no_switch : (t : IntType) {P : Type 0} → None ≡ Some t → P
no_switch t e = absurd (none-some t e)

fits_block : {around : Context} {standing : Standing} (objects : List ℕ) → Fits around standing → Fits (inside_block around) (in_block objects standing)
fits_block objects f = record { result = f.result; proper = f.proper; breaks = f.breaks; continues = f.continues; cases = λ t e. no_switch t e }

fits_loop : {around : Context} {standing : Standing} → Fits around standing → Fits (inside_loop around) (in_block [] (in_loop standing))
fits_loop f = record { result = f.result; proper = f.proper; breaks = λ e. refl; continues = λ e. refl; cases = λ t e. no_switch t e }

fits_switch : {around : Context} {standing : Standing} (t : IntType) (objects : List ℕ) → Fits around standing → Fits (inside_switch t around) (in_switch objects standing)
fits_switch t objects f = record { result = f.result; proper = f.proper; breaks = λ e. refl; continues = f.continues; cases = λ u e. refl }

-- ---- values

typed_from : {w v : World} {A : Type 0} {a : A} {P : A → World → Type 0} → GoesWith Constants w P (Typed a v) → P a v
typed_from (typed_so r p) = p

value_typed : {w v : World} {e : written.ExprTree} {x : TExprTree} (scope : Scope) → Good w → AreUsable w scope → IsValue w e x v → EndsFrom v scope → IsTypedValue scope x
value_typed {w} {v} {e} {x} scope good u q ends = typed_from (whole.value scope (whole.expression scope w e u) good (Typed x v) q.types) ends

value_usable : {w v : World} {e : written.ExprTree} {x : TExprTree} (scope : Scope) → Good w → AreUsable w scope → IsValue w e x v → AreUsable v scope
value_usable {w} {v} scope good u q = usable_after w v scope (value_reach good q) u

condition_typed : {w v : World} {e : written.ExprTree} {x : TExprTree} (scope : Scope) → Good w → AreUsable w scope → IsCondition w e x v → EndsFrom v scope → IsTypedCondition scope (last_expr scope x)
condition_typed {x = x} scope good u q ends = let t = value_typed scope good u q.value ends in (t.typed, scalar_value scope x t q.scalar)

may_condition_typed :
    {w v : World} {e : Option written.ExprTree} {x : Option TExprTree} (scope : Scope) → Good w → AreUsable w scope → MayCondition w e x v → EndsFrom v scope
    → IfSome (option_map (settled_expr scope.program.objects) x) (IsTypedCondition scope)
may_condition_typed scope good u no_condition ends = tt
may_condition_typed scope good u (a_condition q) ends = condition_typed scope good u q ends

may_condition_usable : {w v : World} {e : Option written.ExprTree} {x : Option TExprTree} (scope : Scope) → Good w → AreUsable w scope → MayCondition w e x v → AreUsable v scope
may_condition_usable scope good u no_condition = u
may_condition_usable scope good u (a_condition q) = value_usable scope good u q.value

may_step_typed :
    {w v : World} {e : Option written.ExprTree} {x : Option TExprTree} (scope : Scope) → Good w → AreUsable w scope → MayStep w e x v → EndsFrom v scope
    → IfSome (option_map (settled_expr scope.program.objects) x) (IsTypedExpr scope false)
may_step_typed scope good u no_step ends = tt
may_step_typed scope good u (a_step {x = x} q) ends = dropped scope x (value_typed scope good u q ends).typed

may_step_usable : {w v : World} {e : Option written.ExprTree} {x : Option TExprTree} (scope : Scope) → Good w → AreUsable w scope → MayStep w e x v → AreUsable v scope
may_step_usable scope good u no_step = u
may_step_usable scope good u (a_step q) = value_usable scope good u q

-- ---- initial values

value_sized : {w v : World} {e : written.ExprTree} {x : TExprTree} (program : TProgramTree) → State w → IsValue w e x v → AreSized program w → AreSized program v
value_sized {w} {v} program st q z = sized_calm program w v st.good st.pair (value_reach st.good q) z

may_condition_sized : {w v : World} {e : Option written.ExprTree} {x : Option TExprTree} (program : TProgramTree) → State w → MayCondition w e x v → AreSized program w → AreSized program v
may_condition_sized program st no_condition z = z
may_condition_sized program st (a_condition q) z = value_sized program st q.value z

may_step_sized : {w v : World} {e : Option written.ExprTree} {x : Option TExprTree} (program : TProgramTree) → State w → MayStep w e x v → AreSized program w → AreSized program v
may_step_sized program st no_step z = z
may_step_sized program st (a_step q) z = value_sized program st q z

-- with other labels, cases and scopes
moved : (standing : Standing) (w v : World) → v.structs ≡ w.structs → v.objects ≡ w.objects → v.functions ≡ w.functions → v.signatures ≡ w.signatures → v.initial ≡ w.initial → AreSized standing.scope.program w → AreSized standing.scope.program v
moved standing w v s o f g i z = sized_same standing.scope.program w v s o f g i z

-- ---- the program at the end, from inside a scope

ends_scope : {u v : World} (scope : Scope) → State u → Reaches Any (opened u) v → EndsFrom v scope → EndsFrom u scope
ends_scope {u} {v} scope s r ends = ends_same (opened u) u scope refl refl refl refl (ends_onward (opened u) v scope (enters s.good) s.pair r ends)

ends_reached : {u v : World} (scope : Scope) → State u → Reaches Any u v → EndsFrom v scope → EndsFrom u scope
ends_reached {u} {v} scope s r ends = ends_onward u v scope s.good s.pair r ends

-- ---- what a block lists

pub own_lives : (standing : Standing) (objects : List ℕ) → Lives (in_block objects standing) objects
own_lives standing objects = record {
  listed = All-contains_itself objects;
  live = All-weaker (Contains objects) (Contains (objects ++ standing.scope.live)) (λ o c. Contains-append_left objects standing.scope.live o c) objects (All-contains_itself objects);
}

items_objects :
    {w v : World} {around : Context} {done made : Made} {items : BlockItemTrees} (standing : Standing) → MakesItems w around done items made v → Lives standing made.objects → Lives standing done.objects
items_objects standing no_items l = l
items_objects standing (declaration {done = done} {made = made} d q) l = (lives_split standing done.objects made.objects (items_objects standing q l)).0
items_objects standing (statement {done = done} s q) l = (lives_split standing done.objects [] (items_objects standing q l)).0

-- ---- switches

switch_facts : {around : Context} {w v : World} {values : List ℤ} {defaults : ℕ} → Cased around w v values defaults → w.cases ≡ [] → w.default ≡ None → Distinct values × (defaults ≤ 1)
switch_facts {w = w} {v = v} {values = values} c cases default_none =
    let first : Distinct (values_of w.cases) = subst (λ l. Distinct (values_of l)) (sym cases) (pairs_nil (λ a b. a ≡ b → ⊥)) in
    let list : v.cases ≡ c.list = c.cases ∙ ap (λ l. l ++ c.list) cases in
    (subst Distinct (ap values_of list ∙ c.values_are) (c.distinct first), (let d = c.default_is in let z = ap count_default default_none in let o = one_at_most v.default in omega (arith, d, z, o)))
  where
    one_at_most : (d : Option Pos) → count_default d ≤ 1
    one_at_most None = omega arith
    one_at_most (Some at) = omega arith

switch_value : {w v : World} {e : written.ExprTree} {s : Switched} (scope : Scope) → Good w → AreUsable w scope → IsSwitched w e s v → EndsFrom v scope → IsTypedValue scope s.value × (texpr_type s.value ≡ Int s.ty)
switch_value {s = s} scope good u q ends =
    let t = value_typed scope good u q.value ends in (
      subst (IsTypedValue scope) (sym (ap (λ z. z.value) q.is)) (as_int_value scope (promoted q.own) q.own q.operand t q.integer),
      ap (λ z. texpr_type z.value) q.is ∙ as_int_type (promoted q.own) q.own q.operand q.integer ∙ ap (λ z. Int z.ty) (sym q.is),
    )

switch_row :
    (around : Context) {w v x y : World} {e : written.ExprTree} {s : Switched} {values : List ℤ} {defaults : ℕ} (scope : Scope) (items : TStmtTrees) → IsSwitched x e s y → IsTypedValue scope s.value → texpr_type s.value ≡ Int s.ty
    → Cased (inside_switch s.ty around) w v values defaults → w.cases ≡ [] → w.default ≡ None → cases_among items ≡ values → defaults_among items ≡ defaults
    → SwitchRow (given_type (last_expr scope s.value)) (settled_stmts scope.program.objects items)
switch_row around {s = s} {values = values} scope items q t integer c cases default_none e d =
    let facts = switch_facts c cases default_none in
    let same = cases_settled scope.program.objects items ∙ e in record {
      ty = s.ty;
      integer = value_given scope s.value t (Int s.ty) integer;
      promoted = subst IsPromoted (ap (λ z. z.ty) (sym q.is)) (promoted_same q.own);
      fit = subst (All (HasNumber s.ty)) (sym same) (c.fit s.ty refl);
      distinct = subst Distinct (sym same) facts.0;
      one_default = (let a = defaults_settled scope.program.objects items in let b = facts.1 in omega (arith, a, b, d));
    }

-- ---- statements

-- the only statement of a list
only : (standing : Standing) (s : TStmtTree) → IsTypedStmt standing (settled_stmt standing.scope.program.objects s) → AreTypedItems standing (settled standing (one s))
unfolding IsTypedStmt AreTypedItems settled_stmt settled_stmts
only standing s t = (t, tt)

start_typed :
    {w v : World} {around : Context} {s : ForStartTree} {made : Made} (standing : Standing) → State w → AreUsable w standing.scope → AreSized standing.scope.program w → Lives standing made.objects → MakesStart w around s made v
    → After standing v made.items × AreHead made.items
unfolding IsTypedStmt AreTypedItems settled_stmt settled_stmts AreHead
start_typed standing st u z lives nothing = (record { typed = λ ends. tt; usable = u; sized = z }, tt)
start_typed standing st u z lives (value {x = x} q) =
    (record { typed = λ ends. (dropped standing.scope x (value_typed standing.scope st.good u q ends).typed, tt); usable = value_usable standing.scope st.good u q; sized = value_sized standing.scope.program st q z }, (tt, tt))
start_typed standing st u z lives (declares d) = (decl_typed standing st lives u z d, head_decl d)

return_typed :
    {around : Context} (standing : Standing) (x y : TExprTree) → Fits around standing → IsTypedValue standing.scope x → store_row around.result (texpr_type x) x ≡ Some y
    → ReturnRow standing.scope standing.result (Some (settled_expr standing.scope.program.objects y))
return_typed {around} standing x y fits t e =
    let stored = values_are_stored standing.scope around.result x y t fits.proper e in
    subst (λ r. ReturnRow standing.scope r (Some (settled_expr standing.scope.program.objects y))) (sym fits.result) (stored.typed.typed, stored.row)

mutual
  unfolding IsTypedStmt AreTypedItems settled_stmt settled_stmts cases_among defaults_among

  pub stmt_typed :
      {w v : World} {around : Context} {s : StmtTree} {items : TStmtTrees} (standing : Standing) → State w → Fits around standing → AreUsable w standing.scope → AreSized standing.scope.program w
      → MakesStmt w around s items v → After standing v items
  stmt_typed standing st fits u z (label {at = at} {name = name} q) =
      let a = stmt_typed standing (state_labelled at name st) fits u (moved standing _ _ refl refl refl refl refl z) q in record { typed = λ ends. (tt, a.typed ends); usable = a.usable; sized = a.sized }
  stmt_typed standing st fits u z (case {u = x} t n q e d s) =
      let sx = state_value st q in
      let a = stmt_typed standing (state_cased _ x.default sx) fits (value_usable standing.scope st.good u q) (moved standing x _ refl refl refl refl refl (value_sized standing.scope.program st q z)) s in
      record { typed = λ ends. (fits.cases t e, a.typed ends); usable = a.usable; sized = a.sized }
  stmt_typed {w = w} standing st fits u z (default {at = at} t e d q) =
      let a = stmt_typed standing (state_cased w.cases (Some at) st) fits u (moved standing w _ refl refl refl refl refl z) q in record { typed = λ ends. (fits.cases t e, a.typed ends); usable = a.usable; sized = a.sized }
  stmt_typed {w = w} standing st fits u z (block {v = v} {made = made} q) =
      let inner = in_block made.objects standing in
      let so = state_opened st in
      let a = items_typed inner so (fits_block made.objects fits) (own_lives standing made.objects) (record { typed = λ ends. tt; usable = usable_inside w standing.scope made.objects u; sized = moved standing w (opened w) refl refl refl refl refl z }) q in record {
        typed = λ ends. (a.typed (ends_live v standing.scope (made.objects ++ standing.scope.live) (ends_same (closed w v) v standing.scope refl refl refl refl ends)), tt);
        usable = usable_shut w v standing.scope (onward (opened w) v (items_reach so.good q)) u;
        sized = moved standing v (closed w v) refl refl refl refl refl a.sized;
      }
  stmt_typed standing st fits u z empty = record { typed = λ ends. (tt, tt); usable = u; sized = z }
  stmt_typed standing st fits u z (expression {x = x} q) =
      record { typed = λ ends. (dropped standing.scope x (value_typed standing.scope st.good u q ends).typed, tt); usable = value_usable standing.scope st.good u q; sized = value_sized standing.scope.program st q z }
  stmt_typed {w = w} standing st fits u z (if_alone {u = x} {v = v} q s) =
      let scope = standing.scope in
      let so = state_opened st in
      let sx = state_value so q.value in
      let ux = value_usable scope so.good u q.value in
      let zx = value_sized scope.program so q.value (moved standing w (opened w) refl refl refl refl refl z) in
      let r = stmt_reach (enters sx.good) s in
      let a = stmt_typed (in_block [] standing) (state_opened sx) (fits_block [] fits) ux (moved standing x (opened x) refl refl refl refl refl zx) s in record {
        typed = λ ends.
            let e = ends_same (closed w (closed x v)) v scope refl refl refl refl ends in
            ((condition_typed scope so.good u q (ends_scope scope sx r e), tt, a.typed e, tt, tt), tt);
        usable = usable_shut w (closed x v) scope (onward (opened w) (closed x v) (reaches.after _ _ _ (value_reach {may = Any} so.good q.value) (reaches.scoped x v r))) u;
        sized = moved standing v (closed w (closed x v)) refl refl refl refl refl a.sized;
      }
  stmt_typed {w = w} standing st fits u z (if_else {u = x} {v = v} {x = y} q s t) =
      let scope = standing.scope in
      let so = state_opened st in
      let sx = state_value so q.value in
      let ux = value_usable scope so.good u q.value in
      let zx = value_sized scope.program so q.value (moved standing w (opened w) refl refl refl refl refl z) in
      let sxo = state_opened sx in
      let r = stmt_reach sxo.good s in
      let sv = state_stmt sxo s in
      let sc = state_closed sx r sv in
      let sco = state_opened sc in
      let r2 = stmt_reach sco.good t in
      let a = stmt_typed (in_block [] standing) sxo (fits_block [] fits) ux (moved standing x (opened x) refl refl refl refl refl zx) s in
      let b = stmt_typed (in_block [] standing) sco (fits_block [] fits) (usable_shut x v scope (onward (opened x) v r) ux) (moved standing v (opened (closed x v)) refl refl refl refl refl a.sized) t in record {
        typed = λ ends.
            let e = ends_same (closed w (closed (closed x v) y)) y scope refl refl refl refl ends in
            let f = ends_same (closed x v) v scope refl refl refl refl (ends_scope scope sc r2 e) in
            ((condition_typed scope so.good u q (ends_scope scope sx r f), tt, a.typed f, tt, b.typed e), tt);
        usable = usable_shut w (closed (closed x v) y) scope
            (onward (opened w) (closed (closed x v) y) (reaches.after _ _ _ (value_reach {may = Any} so.good q.value) (reaches.after _ _ _ (reaches.scoped x v r) (reaches.scoped (closed x v) y r2)))) u;
        sized = moved standing y (closed w (closed (closed x v) y)) refl refl refl refl refl b.sized;
      }
  stmt_typed {w = w} {around = around} standing st fits u z (switch_block {u = x} {v = v} {s = s} {made = made} q i) =
      let scope = standing.scope in
      let so = state_opened st in
      let sx = state_cased [] None (state_value so q.value) in
      let ux = value_usable scope so.good u q.value in
      let zx = value_sized scope.program so q.value (moved standing w (opened w) refl refl refl refl refl z) in
      let sxo = state_opened sx in
      let r = items_reach sxo.good i in
      let c = items_cased sxo.good i in
      let inner = in_switch made.objects standing in
      let a = items_typed inner sxo (fits_switch s.ty made.objects fits) (record { listed = (own_lives standing made.objects).listed; live = (own_lives standing made.objects).live })
      (record { typed = λ ends. tt; usable = usable_inside x scope made.objects ux; sized = moved standing x (opened (without_cases x)) refl refl refl refl refl zx }) i in record {
        typed = λ ends.
            let e = ends_same _ v scope refl refl refl refl ends in
            let f = ends_same (without_cases x) x scope refl refl refl refl (ends_scope scope sx r e) in
            let value = switch_value scope so.good u q f in (
              (
                value.0.typed,
                switch_row around scope made.items q value.0 value.1 c.cased refl refl c.cases_are (let d = c.defaults_are in omega (arith, d)),
                a.typed (ends_live v scope (made.objects ++ scope.live) e),
              ),
              tt,
            );
        usable = usable_shut w (closed (without_cases x) v) scope
            (onward (opened w) (closed (without_cases x) v) (reaches.after _ _ _ (value_reach {may = Any} so.good q.value) (reaches.after _ _ _ (reaches.cased x [] None) (reaches.scoped (without_cases x) v r)))) u;
        sized = moved standing v _ refl refl refl refl refl a.sized;
      }
  stmt_typed {w = w} {around = around} standing st fits u z (switch_one {u = x} {v = v} {s = s} {items = items} q i) =
      let scope = standing.scope in
      let so = state_opened st in
      let sx = state_cased [] None (state_value so q.value) in
      let ux = value_usable scope so.good u q.value in
      let zx = value_sized scope.program so q.value (moved standing w (opened w) refl refl refl refl refl z) in
      let sxo = state_opened sx in
      let r = stmt_reach sxo.good i in
      let a = stmt_typed (in_switch [] standing) sxo (fits_switch s.ty [] fits) ux (moved standing x (opened (without_cases x)) refl refl refl refl refl zx) i in record {
        typed = λ ends.
            let e = ends_same _ v scope refl refl refl refl ends in
            let f = ends_same (without_cases x) x scope refl refl refl refl (ends_scope scope sx r e) in
            let value = switch_value scope so.good u q f in
            ((value.0.typed, switch_row around scope items q value.0 value.1 (stmt_cased sxo.good i) refl refl refl refl, a.typed e), tt);
        usable = usable_shut w v scope
            (onward (opened w) v (reaches.after _ _ _ (value_reach {may = Any} so.good q.value) (reaches.after _ _ _ (reaches.cased x [] None) (reaches.after _ _ _ (reaches.opens _) r)))) u;
        sized = moved standing v _ refl refl refl refl refl a.sized;
      }
  stmt_typed {w = w} standing st fits u z (while {u = x} {v = v} q s) =
      let scope = standing.scope in
      let so = state_opened st in
      let sx = state_value so q.value in
      let ux = value_usable scope so.good u q.value in
      let zx = value_sized scope.program so q.value (moved standing w (opened w) refl refl refl refl refl z) in
      let r = stmt_reach (enters sx.good) s in
      let a = stmt_typed (in_block [] (in_loop standing)) (state_opened sx) (fits_loop fits) ux (moved standing x (opened x) refl refl refl refl refl zx) s in record {
        typed = λ ends.
            let e = ends_same (closed w (closed x v)) v scope refl refl refl refl ends in
            ((condition_typed scope so.good u q (ends_scope scope sx r e), tt, a.typed e), tt);
        usable = usable_shut w (closed x v) scope (onward (opened w) (closed x v) (reaches.after _ _ _ (value_reach {may = Any} so.good q.value) (reaches.scoped x v r))) u;
        sized = moved standing v (closed w (closed x v)) refl refl refl refl refl a.sized;
      }
  stmt_typed {w = w} standing st fits u z (do_while {u = x} {v = v} s q) =
      let scope = standing.scope in
      let so = state_opened st in
      let soo = state_opened so in
      let r = stmt_reach soo.good s in
      let sc = state_closed so r (state_stmt soo s) in
      let uc = usable_shut (opened w) x scope (onward (opened (opened w)) x r) u in
      let r2 = value_reach {may = Any} sc.good q.value in
      let a = stmt_typed (in_block [] (in_loop standing)) soo (fits_loop fits) u (moved standing w (opened (opened w)) refl refl refl refl refl z) s in record {
        typed = λ ends.
            let e = ends_same (closed w v) v scope refl refl refl refl ends in
            let f = ends_same (closed (opened w) x) x scope refl refl refl refl (ends_reached scope sc r2 e) in
            ((condition_typed scope sc.good uc q e, tt, a.typed f), tt);
        usable = usable_shut w v scope (onward (opened w) v (reaches.after _ _ _ (reaches.scoped (opened w) x r) r2)) u;
        sized = moved standing v (closed w v) refl refl refl refl refl
            (value_sized scope.program sc q.value (moved standing x (closed (opened w) x) refl refl refl refl refl a.sized));
      }
  stmt_typed {w = w} standing st fits u before (for {u = x} {v = y} {x = z} {y = v} {head = head} s c n q) =
      let inner = in_block head.objects standing in
      let scope = inner.scope in
      let so = state_opened st in
      let start = start_typed inner so (usable_inside w standing.scope head.objects u) (moved standing w (opened w) refl refl refl refl refl before) (own_lives standing head.objects) s in
      let r = start_reach so.good s in
      let sx = state_start so s in
      let r2 = may_condition_reach {may = Any} sx.good c in
      let sy = state_condition sx c in
      let uy = may_condition_usable scope sx.good start.0.usable c in
      let r3 = may_step_reach {may = Any} sy.good n in
      let sz = state_step sy n in
      let uz = may_step_usable scope sy.good uy n in
      let szo = state_opened sz in
      let r4 = stmt_reach szo.good q in
      let zz = may_step_sized scope.program sy n (may_condition_sized scope.program sx c start.0.sized) in
      let a = stmt_typed (in_block [] (in_loop inner)) szo (fits_loop (fits_block head.objects fits)) uz (moved standing z (opened z) refl refl refl refl refl zz) q in record {
        typed = λ ends.
            let e = ends_live v standing.scope (head.objects ++ standing.scope.live) (ends_same (closed w (closed z v)) v standing.scope refl refl refl refl ends) in
            let ez = ends_scope scope sz r4 e in
            let ey = ends_reached scope sy r3 ez in
            let ex = ends_reached scope sx r2 ey in
            ((head_settled scope.program.objects head.items start.1, start.0.typed ex, may_condition_typed scope sx.good start.0.usable c ey, may_step_typed scope sy.good uy n ez, tt, a.typed e), tt);
        usable = usable_shut w (closed z v) standing.scope
            (onward (opened w) (closed z v) (reaches.after _ _ _ r (reaches.after _ _ _ r2 (reaches.after _ _ _ r3 (reaches.scoped z v r4))))) u;
        sized = moved standing v (closed w (closed z v)) refl refl refl refl refl a.sized;
      }
  stmt_typed standing st fits u z (goto e) = record { typed = λ ends. (tt, tt); usable = u; sized = z }
  stmt_typed standing st fits u z (continue e) = record { typed = λ ends. (fits.continues e, tt); usable = u; sized = z }
  stmt_typed standing st fits u z (break e) = record { typed = λ ends. (fits.breaks e, tt); usable = u; sized = z }
  stmt_typed standing st fits u z (return_bare e) = record { typed = λ ends. (fits.result ∙ e, tt); usable = u; sized = z }
  stmt_typed standing st fits u z (return_value {x = x} {y = y} q e) =
      record { typed = λ ends. (return_typed standing x y fits (value_typed standing.scope st.good u q ends) e, tt); usable = value_usable standing.scope st.good u q; sized = value_sized standing.scope.program st q z }

  pub items_typed :
      {w v : World} {around : Context} {done made : Made} {items : BlockItemTrees} (standing : Standing) → State w → Fits around standing → Lives standing made.objects → After standing w done.items
      → MakesItems w around done items made v → After standing v made.items
  items_typed standing st fits lives before no_items = before
  items_typed {w = w} standing st fits lives before (declaration {u = x} {done = done} {made = made} d q) =
      let here = lives_split standing done.objects made.objects (items_objects standing q lives) in
      let a = decl_typed standing st here.1 before.usable before.sized d in
      items_typed standing (state_decl st d) fits lives (record {
        typed = λ ends. typed_both standing done.items made.items (before.typed (ends_reached standing.scope st (decl_reach st.good d) ends)) (a.typed ends);
        usable = a.usable;
        sized = a.sized;
      }) q
  items_typed {w = w} standing st fits lives before (statement {u = x} {done = done} {items = items} s q) =
      let a = stmt_typed standing st fits before.usable before.sized s in
      items_typed standing (state_stmt st s) fits lives (record {
        typed = λ ends. typed_both standing done.items items (before.typed (ends_reached standing.scope st (stmt_reach st.good s) ends)) (a.typed ends);
        usable = a.usable;
        sized = a.sized;
      }) q
