-- A statement comes from its parts.
use Rattle.std.proofs.Common.{◌≡◌, ℕ, ℤ, true, false, List, [], length, refl}
use Rattle.std.specs.Prelude.{Bool, Option, None, Some, position, bytes_eq}
use Rattle.c_syntax_written.specs.declared.place.Pos.{Pos}
use Rattle.c_syntax_written.specs.declared.int_type.IntType.{IntType}
use Rattle.c_syntax_written.specs.Integer.{wrapped}
use Rattle.c_syntax_written.specs.Written as written
use Rattle.c_syntax_written.specs.WrittenParts.{expr_pos, stmt_pos}
use Rattle.c_syntax_written.specs.WrittenFile as files
use Rattle.c_syntax_written.specs.WrittenFile.{ForStartTree, StmtTree, BlockItemTrees}
use Rattle.c_syntax.specs.declared.statement.BlockKind.TheVariants as kinds
use Rattle.c_syntax.specs.Types.{CTypeTree, Void, Int, Pointer, Array, Struct, Function}
use Rattle.c_syntax.specs.TypedExpr.{TExprTree}
use Rattle.c_syntax.specs.TypedParts.{texpr_type, not_used}
use Rattle.c_syntax.specs.TypedStmt.{TStmtTree, TStmtTrees, Expr, Block, If, While, DoWhile, For, Switch, Break, Continue, Label, Case, Default, more}
use Rattle.c_typing.specs.World.{World, Outcome, Typed, Refused, Then, Is}
use Rattle.c_typing.specs.Names.{opened, closed}
use Rattle.c_typing.specs.Constants.{constant_value}
use Rattle.c_typing.specs.Rows.{is_scalar, store_row}
use Rattle.c_typing.specs.Typing.{Types, Valued}
use Rattle.c_typing.specs.Context.{Context, inside_block, inside_loop, inside_switch}
use Rattle.c_typing.specs.Decls.{Made, nothing_made}
use Rattle.c_typing.specs.Stmts as stmts
use Rattle.c_typing.specs.Stmts.{TypesStmt, Switched, one, no_else, without_cases, with_cases_of, with_items, case_before, label_before}
use Rattle.c_typing_laws.specs.StmtSteps.{IsValue, IsCondition, MayCondition, no_condition, a_condition, MayStep, no_step, a_step, IsSwitched, MakesStart, nothing, value, declares, with_label, with_case, with_default, MakesStmt, label, case, default, block, empty, expression, if_alone, if_else, switch_block, switch_one, while, do_while, for, goto, continue, break, return_bare, return_value, MakesItems, no_items, declaration, statement}
use Rattle.c_typing_laws.proofs.Outcomes.{TypedAs, typed_as, refused_as, AllTyped, then_as, is_as, as_if, as_declared, as_made}
use Rattle.c_typing_laws.proofs.DeclsMade.{decl_as}

-- ---- parts

a_value : (w : World) (e : written.ExprTree) → AllTyped (IsValue w e) (Valued (Types w e))
a_value w e (Typed x v) p = typed_as (record { types = p })
a_value w e (Refused r) p = refused_as

condition_as : (w : World) (at : Pos) (e : written.ExprTree) → AllTyped (IsCondition w e) (stmts.Condition w at e)
condition_as w at e = then_as (a_value w e) (λ x v p. is_as (as_if (is_scalar (texpr_type x)) (λ s. typed_as (record { value = p; scalar = s })) (λ s. refused_as)))

-- an expression whose value is dropped
data IsDropped (w : World) (e : written.ExprTree) : TExprTree → World → Type 0 where
  dropped : {x : TExprTree} {v : World} → IsValue w e x v → IsDropped w e (not_used x) v

may_condition : (w : World) (at : Pos) (e : Option written.ExprTree) → AllTyped (MayCondition w e) (stmts.Perhaps w (λ v x. stmts.Condition v at x) e)
may_condition w at None = is_as (typed_as no_condition)
may_condition w at (Some e) = then_as (condition_as w at e) (λ x v p. is_as (typed_as (a_condition p)))

dropped_as : (w : World) (e : written.ExprTree) → AllTyped (IsDropped w e) (stmts.Dropped w e)
dropped_as w e = then_as (a_value w e) (λ x v p. is_as (typed_as (dropped p)))

step_made : {w : World} {e : written.ExprTree} {x : TExprTree} {v : World} → IsDropped w e x v → MayStep w (Some e) (Some x) v
step_made (dropped p) = a_step p

may_step : (w : World) (e : Option written.ExprTree) → AllTyped (MayStep w e) (stmts.Perhaps w stmts.Dropped e)
may_step w None = is_as (typed_as no_step)
may_step w (Some e) = then_as (dropped_as w e) (λ x v p. is_as (typed_as (step_made p)))

switched_as : (w v : World) (at : Pos) (e : written.ExprTree) (x : TExprTree) (ty : CTypeTree) → IsValue w e x v → texpr_type x ≡ ty → TypedAs (IsSwitched w e) (stmts.switched_by v at x ty)
switched_as w v at e x Void p q = refused_as
switched_as w v at e x (Int t) p q = typed_as (record { operand = x; own = t; value = p; integer = q; is = refl })
switched_as w v at e x (Pointer to c) p q = refused_as
switched_as w v at e x (Array of c n) p q = refused_as
switched_as w v at e x (Struct n) p q = refused_as
switched_as w v at e x (Function n) p q = refused_as

switch_value : (w : World) (at : Pos) (e : written.ExprTree) → AllTyped (IsSwitched w e) (stmts.SwitchValue w at e)
switch_value w at e = then_as (a_value w e) (λ x v p. is_as (switched_as w v at e x (texpr_type x) p refl))

start_value : {w : World} {around : Context} {e : written.ExprTree} {x : TExprTree} {v : World} → IsDropped w e x v
    → MakesStart w around (files.Value e) (record { objects = []; items = one (Expr (expr_pos e) x) }) v
start_value (dropped p) = value p

start_as : (w : World) (around : Context) (s : ForStartTree) → AllTyped (MakesStart w around s) (stmts.TypesStart w around s)
start_as w around files.Nothing = is_as (typed_as nothing)
start_as w around (files.Value e) = then_as (dropped_as w e) (λ x v p. is_as (typed_as (start_value p)))
start_as w around (files.Declares decl) = λ o p. as_made (λ made v d. declares d) (decl_as w around decl o p)

-- ---- labels and cases

data IsLabelled (w : World) (at : Pos) (name : List ℕ) : ℕ → World → Type 0 where
  labelled : IsLabelled w at name (length w.labels) (with_label w at name)

labelled_as : (w : World) (at : Pos) (name : List ℕ) → TypedAs (IsLabelled w at name) (stmts.labelled w at name)
labelled_as w at name = as_declared at (label_before w name) (λ e. typed_as labelled)

data IsCased (w : World) (at : Pos) (switch : Option IntType) : ℤ → World → Type 0 where
  cased : (t : IntType) (n : ℤ) → switch ≡ Some t → case_before w (wrapped t n) ≡ None → IsCased w at switch (wrapped t n) (with_case w at (wrapped t n))

case_value_as : (w : World) (at value_at : Pos) (switch : Option IntType) (t : IntType) (n : Option ℤ) → switch ≡ Some t → TypedAs (IsCased w at switch) (stmts.case_value w at value_at t n)
case_value_as w at value_at switch t None e = refused_as
case_value_as w at value_at switch t (Some n) e = as_declared at (case_before w (wrapped t n)) (λ d. typed_as (cased t n e d))

case_as : (w : World) (at value_at : Pos) (switch : Option IntType) (n : Option ℤ) → TypedAs (IsCased w at switch) (stmts.case_of w at value_at switch n)
case_as w at value_at None n = refused_as
case_as w at value_at (Some t) n = case_value_as w at value_at (Some t) t n refl

data IsDefault (w : World) (at : Pos) (switch : Option IntType) : TStmtTree → World → Type 0 where
  defaulted : (t : IntType) → switch ≡ Some t → w.default ≡ None → IsDefault w at switch (Default at) (with_default w at)

default_as : (w : World) (at : Pos) (switch : Option IntType) → TypedAs (IsDefault w at switch) (stmts.default_of w at switch)
default_as w at None = refused_as
default_as w at (Some t) = as_declared at w.default (λ e. typed_as (defaulted t refl e))

label_made :
    {w u v : World} {around : Context} {at : Pos} {name : List ℕ} {body : StmtTree} {items : TStmtTrees} {n : ℕ} → IsLabelled w at name n u → MakesStmt u around body items v
    → MakesStmt w around (files.Label at name body) (more (Label at n) items) v
label_made labelled p = label p

case_made :
    {w u x v : World} {around : Context} {at : Pos} {e : written.ExprTree} {body : StmtTree} {items : TStmtTrees} {n : ℤ} {y : TExprTree} → IsValue w e y u → IsCased u at around.switch n x
    → MakesStmt x around body items v → MakesStmt w around (files.Case at e body) (more (Case at n) items) v
case_made p (cased t n e d) q = case t n p e d q

default_made :
    {w u v : World} {around : Context} {at : Pos} {body : StmtTree} {items : TStmtTrees} {s : TStmtTree} → IsDefault w at around.switch s u → MakesStmt u around body items v
    → MakesStmt w around (files.Default at body) (more s items) v
default_made (defaulted t e d) p = default t e d p

-- ---- substatements

data InBlock (w : World) (at : Pos) (P : TStmtTrees → World → Type 0) : TStmtTree → World → Type 0 where
  in_block : {items : TStmtTrees} {v : World} → P items v → InBlock w at P (Block at kinds.Added [] items) (closed w v)

substatement_as :
    (w : World) (at : Pos) {P : TStmtTrees → World → Type 0} (types : World → Outcome TStmtTrees → Type 0) → AllTyped P (types (opened w))
    → AllTyped (InBlock w at P) (stmts.OfSubstatement w at types)
substatement_as w at types f = then_as f (λ items v p. is_as (typed_as (in_block p)))

if_made :
    {w u v : World} {around : Context} {at : Pos} {c : written.ExprTree} {first : StmtTree} {x : TExprTree} {a : TStmtTree} → IsCondition (opened w) c x u
    → InBlock u (stmt_pos first) (MakesStmt (opened u) (inside_block around) first) a v → MakesStmt w around (files.If at c first) (one (If at x a (no_else at))) (closed w v)
if_made p (in_block q) = if_alone p q

if_else_made :
    {w u v y : World} {around : Context} {at : Pos} {c : written.ExprTree} {first second : StmtTree} {x : TExprTree} {a b : TStmtTree} → IsCondition (opened w) c x u
    → InBlock u (stmt_pos first) (MakesStmt (opened u) (inside_block around) first) a v → InBlock v (stmt_pos second) (MakesStmt (opened v) (inside_block around) second) b y
    → MakesStmt w around (files.IfElse at c first second) (one (If at x a b)) (closed w y)
if_else_made p (in_block q) (in_block r) = if_else p q r

while_made :
    {w u v : World} {around : Context} {at : Pos} {c : written.ExprTree} {body : StmtTree} {x : TExprTree} {a : TStmtTree} → IsCondition (opened w) c x u
    → InBlock u (stmt_pos body) (MakesStmt (opened u) (inside_loop around) body) a v → MakesStmt w around (files.While at c body) (one (While at x a)) (closed w v)
while_made p (in_block q) = while p q

do_made :
    {w u v : World} {around : Context} {at : Pos} {c : written.ExprTree} {body : StmtTree} {x : TExprTree} {a : TStmtTree}
    → InBlock (opened w) (stmt_pos body) (MakesStmt (opened (opened w)) (inside_loop around) body) a u → IsCondition u c x v
    → MakesStmt w around (files.DoWhile at body c) (one (DoWhile at a x)) (closed w v)
do_made (in_block q) p = do_while q p

for_made :
    {w u v x y : World} {around : Context} {at : Pos} {start : ForStartTree} {c step : Option written.ExprTree} {body : StmtTree} {head : Made} {test next : Option TExprTree} {a : TStmtTree}
    → MakesStart (opened w) (inside_block around) start head u → MayCondition u c test v → MayStep v step next x
    → InBlock x (stmt_pos body) (MakesStmt (opened x) (inside_loop around) body) a y
    → MakesStmt w around (files.For at start c step body) (one (For at head.objects head.items test next a)) (closed w y)
for_made s c n (in_block q) = for s c n q

-- a block that is written
data InWritten (w : World) (node : Made → TStmtTree) (P : Made → World → Type 0) : TStmtTrees → World → Type 0 where
  in_written : {made : Made} {v : World} → P made v → InWritten w node P (one (node made)) (closed w v)

written_as :
    (w : World) (node : Made → TStmtTree) {P : Made → World → Type 0} (types : World → Outcome Made → Type 0) → AllTyped P (types (opened w)) → AllTyped (InWritten w node P) (stmts.OfBlock w types node)
written_as w node types f = then_as f (λ made v p. is_as (typed_as (in_written p)))

block_made :
    {w v : World} {around : Context} {at : Pos} {list : BlockItemTrees} {items : TStmtTrees}
    → InWritten w (λ made. Block at kinds.Written made.objects made.items) (MakesItems (opened w) (inside_block around) nothing_made list) items v → MakesStmt w around (files.Block at list) items v
block_made (in_written p) = block p

switch_made :
    {w u v : World} {around : Context} {at block_at : Pos} {e : written.ExprTree} {list : BlockItemTrees} {s : Switched} {items : TStmtTrees} → IsSwitched (opened w) e s u
    → InWritten (without_cases u) (stmts.switch_node at s) (MakesItems (opened (without_cases u)) (inside_switch s.ty around) nothing_made list) items v
    → MakesStmt w around (files.Switch at e (files.Block block_at list)) items (with_cases_of w (closed w v))
switch_made p (in_written q) = switch_block p q

-- a switch whose body is no block
switch_alone :
    (w : World) (around : Context) (at : Pos) (e : written.ExprTree) (body : StmtTree)
    → ((u : World) (s : Switched) → AllTyped (MakesStmt (opened (without_cases u)) (inside_switch s.ty around) body) (TypesStmt (opened (without_cases u)) (inside_switch s.ty around) body))
    → AllTyped (MakesStmt w around (files.Switch at e body)) (Then (stmts.SwitchValue (opened w) at e) (λ s w1.
    Then (TypesStmt (opened (without_cases w1)) (inside_switch s.ty around) body) (λ items w2.
    Is (Typed (one (Switch at s.value kinds.Added [] items)) (with_cases_of w (closed w w2))))))
switch_alone w around at e body f = then_as (switch_value (opened w) at e) (λ s u p. then_as (f u s) (λ items v q. is_as (typed_as (switch_one p q))))

-- ---- simple statements

goto_as : (w : World) (around : Context) (at : Pos) (name : List ℕ) (n : Option ℕ) → position (λ label. bytes_eq label name) around.labels ≡ n
    → TypedAs (MakesStmt w around (files.Goto at name)) (stmts.jumped w at n)
goto_as w around at name None e = refused_as
goto_as w around at name (Some n) e = typed_as (goto e)

break_as : (w : World) (around : Context) (at : Pos) (b : Bool) → around.breaks ≡ b → TypedAs (MakesStmt w around (files.Break at)) (stmts.allowed w at b (Break at))
break_as w around at true e = typed_as (break e)
break_as w around at false e = refused_as

continue_as : (w : World) (around : Context) (at : Pos) (b : Bool) → around.continues ≡ b → TypedAs (MakesStmt w around (files.Continue at)) (stmts.allowed w at b (Continue at))
continue_as w around at true e = typed_as (continue e)
continue_as w around at false e = refused_as

bare_as : (w : World) (around : Context) (at : Pos) (ty : CTypeTree) → around.result ≡ ty → TypedAs (MakesStmt w around (files.Return at None)) (stmts.returned_bare w at ty)
bare_as w around at Void e = typed_as (return_bare e)
bare_as w around at (Int t) e = refused_as
bare_as w around at (Pointer to c) e = refused_as
bare_as w around at (Array of c n) e = refused_as
bare_as w around at (Struct n) e = refused_as
bare_as w around at (Function n) e = refused_as

return_as :
    (w v : World) (around : Context) (at : Pos) (e : written.ExprTree) (x : TExprTree) (o : Option TExprTree) → IsValue w e x v → store_row around.result (texpr_type x) x ≡ o
    → TypedAs (MakesStmt w around (files.Return at (Some e))) (stmts.returned_as v at around.result x o)
return_as w v around at e x None p q = refused_as
return_as w v around at e x (Some y) p q = typed_as (return_value p q)

expression_made : {w : World} {around : Context} {at : Pos} {e : written.ExprTree} {x : TExprTree} {v : World} → IsDropped w e x v
    → MakesStmt w around (files.Expression at e) (one (Expr at x)) v
expression_made (dropped p) = expression p

-- ---- the relation

mutual
  unfolding TypesStmt stmts.TypesItems

  pub stmt_as : (w : World) (around : Context) (s : StmtTree) → AllTyped (MakesStmt w around s) (TypesStmt w around s)
  stmt_as w around (files.Label at name body) = then_as (is_as (labelled_as w at name)) (λ n u l. then_as (stmt_as u around body) (λ items v p. is_as (typed_as (label_made l p))))
  stmt_as w around (files.Case at e body) =
      then_as (a_value w e) (λ x u p. then_as (is_as (case_as u at (expr_pos e) around.switch (constant_value x))) (λ n v c.
      then_as (stmt_as v around body) (λ items y q. is_as (typed_as (case_made p c q)))))
  stmt_as w around (files.Default at body) = then_as (is_as (default_as w at around.switch)) (λ s u d. then_as (stmt_as u around body) (λ items v p. is_as (typed_as (default_made d p))))
  stmt_as w around (files.Block at items) = λ o p. as_made (λ list v q. block_made q) (written_as w _ (λ v. stmts.TypesItems v (inside_block around) nothing_made items) (items_as (opened w) (inside_block around) nothing_made items) o p)
  stmt_as w around (files.Empty at) = is_as (typed_as empty)
  stmt_as w around (files.Expression at e) = then_as (dropped_as w e) (λ x v p. is_as (typed_as (expression_made p)))
  stmt_as w around (files.If at c first) =
      then_as (condition_as (opened w) at c) (λ x u p. then_as (substatement_as u (stmt_pos first) (λ v. TypesStmt v (inside_block around) first) (stmt_as (opened u) (inside_block around) first)) (λ a v q. is_as (typed_as (if_made p q))))
  stmt_as w around (files.IfElse at c first second) =
      then_as (condition_as (opened w) at c) (λ x u p. then_as (substatement_as u (stmt_pos first) (λ v. TypesStmt v (inside_block around) first) (stmt_as (opened u) (inside_block around) first)) (λ a v q.
      then_as (substatement_as v (stmt_pos second) (λ z. TypesStmt z (inside_block around) second) (stmt_as (opened v) (inside_block around) second)) (λ b y r. is_as (typed_as (if_else_made p q r)))))
  stmt_as w around (files.Switch at e (files.Block block_at items)) =
      then_as (switch_value (opened w) at e) (λ s u p. then_as (written_as (without_cases u) (stmts.switch_node at s) (λ v. stmts.TypesItems v (inside_switch s.ty around) nothing_made items) (items_as (opened (without_cases u)) (inside_switch s.ty around) nothing_made items)) (λ made v q.
      is_as (typed_as (switch_made p q))))
  stmt_as w around (files.Switch at e body) = switch_alone w around at e body (λ u s. stmt_as (opened (without_cases u)) (inside_switch s.ty around) body)
  stmt_as w around (files.While at c body) =
      then_as (condition_as (opened w) at c) (λ x u p. then_as (substatement_as u (stmt_pos body) (λ v. TypesStmt v (inside_loop around) body) (stmt_as (opened u) (inside_loop around) body)) (λ a v q. is_as (typed_as (while_made p q))))
  stmt_as w around (files.DoWhile at body c) =
      then_as (substatement_as (opened w) (stmt_pos body) (λ v. TypesStmt v (inside_loop around) body) (stmt_as (opened (opened w)) (inside_loop around) body)) (λ a u q. then_as (condition_as u at c) (λ x v p. is_as (typed_as (do_made q p))))
  stmt_as w around (files.For at start c step body) =
      then_as (start_as (opened w) (inside_block around) start) (λ head u s. then_as (may_condition u at c) (λ test v p. then_as (may_step v step) (λ next x n.
      then_as (substatement_as x (stmt_pos body) (λ v. TypesStmt v (inside_loop around) body) (stmt_as (opened x) (inside_loop around) body)) (λ a y q. is_as (typed_as (for_made s p n q))))))
  stmt_as w around (files.Goto at name) = is_as (goto_as w around at name (position (λ label. bytes_eq label name) around.labels) refl)
  stmt_as w around (files.Continue at) = is_as (continue_as w around at around.continues refl)
  stmt_as w around (files.Break at) = is_as (break_as w around at around.breaks refl)
  stmt_as w around (files.Return at None) = is_as (bare_as w around at around.result refl)
  stmt_as w around (files.Return at (Some e)) = then_as (a_value w e) (λ x v p. is_as (return_as w v around at e x (store_row around.result (texpr_type x) x) p refl))

  pub items_as : (w : World) (around : Context) (done : Made) (items : BlockItemTrees) → AllTyped (MakesItems w around done items) (stmts.TypesItems w around done items)
  items_as w around done files.none = is_as (typed_as no_items)
  items_as w around done (files.more (files.Declaration decl) rest) =
      then_as (decl_as w around decl) (λ made u p o q. as_made (λ all v q. declaration p q) (items_as u around _ rest o q))
  items_as w around done (files.more (files.Statement s) rest) =
      then_as (stmt_as w around s) (λ items u p o q. as_made (λ all v q. statement p q) (items_as u around _ rest o q))
