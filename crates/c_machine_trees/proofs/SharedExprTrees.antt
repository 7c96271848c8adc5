-- The trees of typed expressions whose parts are shared, by the constructors that the code has.
use Rattle.std.proofs.Common.{◌≡◌, ℕ, ℤ, Bool, List, [], ◌∷◌, refl, ap, ◌∙◌}
use Rattle.std.specs.declared.rc.Rc.{Rc}
use Rattle.std.specs.declared.alloc.Global.{Global}
use Rattle.c_syntax_written.specs.declared.place.Pos.{Pos}
use Rattle.c_syntax_written.specs.declared.int_type.IntType.{IntType}
use Rattle.c_syntax.specs.declared.types.CType.{CType}
use Rattle.c_syntax.specs.declared.operator.TUnaryOp.{TUnaryOp}
use Rattle.c_syntax.specs.declared.operator.TBinaryOp.{TBinaryOp}
use Rattle.c_syntax.specs.declared.operator.Extent.{Extent}
use Rattle.c_syntax.specs.declared.operator.Stride.{Stride}
use Rattle.c_syntax.specs.declared.operator.StepTime.{StepTime}
use Rattle.c_syntax_written.specs.declared.step.StepWay.{StepWay}
use Rattle.c_syntax.specs.declared.operator.DerefKind.{DerefKind}
use Rattle.c_machine_trees.specs.declared.expression.SharedExpr.{SharedExpr, Row_of-SharedExprs-items-1, end_of-SharedExprs-items-1, more_of-SharedExprs-items-1}
use Rattle.c_machine_trees.specs.declared.expression.SharedExpr.{items-the_row-SharedExprs-items-1, items_hidden-the_row-SharedExprs-items-1-0}
use Rattle.c_machine_trees.specs.declared.expression.SharedExpr.TheBlock.{hidden-the_row-SharedExprs-items-1-0}
use Rattle.c_machine_trees.specs.declared.expression.SharedExpr.TheVariants as exprs
use Rattle.c_machine_trees.specs.declared.expression.SharedPlace.{SharedPlace}
use Rattle.c_machine_trees.specs.declared.expression.SharedPlace.TheVariants as places
use Rattle.c_machine_trees.specs.declared.expression.SharedExprs.{SharedExprs}
use Rattle.c_syntax.specs.Types.{ctype_tree}
use Rattle.c_syntax.specs.TypedExpr.{TExprTrees}
use Rattle.c_syntax.specs.TypedExpr as trees
use Rattle.c_machine_trees.specs.Expressions.{expr_tree, place_tree, expr_rows, exprs_from, exprs_tree}

exprs_rows : {m : _} (row : Row_of-SharedExprs-items-1 m) → expr_rows row ≡ exprs_from (items-the_row-SharedExprs-items-1 m row)
unfolding expr_rows exprs_from
exprs_rows end_of-SharedExprs-items-1 = refl
exprs_rows (more_of-SharedExprs-items-1 share item rest) = ap (trees.more (expr_tree item)) (exprs_rows rest)

-- the row of the items
exprs_row : (list : SharedExprs) → expr_rows (hidden-the_row-SharedExprs-items-1-0 list.items) ≡ exprs_tree list
exprs_row list = exprs_rows (hidden-the_row-SharedExprs-items-1-0 list.items) ∙ ap exprs_from (items_hidden-the_row-SharedExprs-items-1-0 list.items)

pub expr_const : (at : Pos) (ty : IntType) (value : ℤ) → expr_tree (exprs.Const at ty value) ≡ trees.Const at ty value
unfolding expr_tree
expr_const at ty value = refl

pub expr_null : (at : Pos) (ty : CType) → expr_tree (exprs.Null at ty) ≡ trees.Null at (ctype_tree ty)
unfolding expr_tree
expr_null at ty = refl

pub expr_load : (at : Pos) (place : Rc SharedPlace Global) → expr_tree (exprs.Load at place) ≡ trees.Load at (place_tree place.value)
unfolding expr_tree
expr_load at place = refl

pub expr_address_of : (at : Pos) (place : Rc SharedPlace Global) → expr_tree (exprs.AddressOf at place) ≡ trees.AddressOf at (place_tree place.value)
unfolding expr_tree
expr_address_of at place = refl

pub expr_decay : (at : Pos) (place : Rc SharedPlace Global) → expr_tree (exprs.Decay at place) ≡ trees.Decay at (place_tree place.value)
unfolding expr_tree
expr_decay at place = refl

pub expr_whole : (at : Pos) (place : Rc SharedPlace Global) → expr_tree (exprs.Whole at place) ≡ trees.Whole at (place_tree place.value)
unfolding expr_tree
expr_whole at place = refl

pub expr_unary : (at : Pos) (op : TUnaryOp) (operand : Rc SharedExpr Global)
    → expr_tree (exprs.Unary at op operand) ≡ trees.Unary at op (expr_tree operand.value)
unfolding expr_tree
expr_unary at op operand = refl

pub expr_binary : (at : Pos) (op : TBinaryOp) (left : Rc SharedExpr Global) (right : Rc SharedExpr Global)
    → expr_tree (exprs.Binary at op left right) ≡ trees.Binary at op (expr_tree left.value) (expr_tree right.value)
unfolding expr_tree
expr_binary at op left right = refl

pub expr_convert : (at : Pos) (ty : CType) (operand : Rc SharedExpr Global)
    → expr_tree (exprs.Convert at ty operand) ≡ trees.Convert at (ctype_tree ty) (expr_tree operand.value)
unfolding expr_tree
expr_convert at ty operand = refl

pub expr_assign : (at : Pos) (place : Rc SharedPlace Global) (value : Rc SharedExpr Global)
    → expr_tree (exprs.Assign at place value) ≡ trees.Assign at (place_tree place.value) (expr_tree value.value)
unfolding expr_tree
expr_assign at place value = refl

pub expr_assign_struct : (at : Pos) (extent : Extent) (place : Rc SharedPlace Global) (source : Rc SharedExpr Global)
    → expr_tree (exprs.AssignStruct at extent place source) ≡ trees.AssignStruct at extent (place_tree place.value) (expr_tree source.value)
unfolding expr_tree
expr_assign_struct at extent place source = refl

pub expr_compound : (at : Pos) (op : TBinaryOp) (place : Rc SharedPlace Global) (value : Rc SharedExpr Global)
    → expr_tree (exprs.Compound at op place value) ≡ trees.Compound at op (place_tree place.value) (expr_tree value.value)
unfolding expr_tree
expr_compound at op place value = refl

pub expr_step : (at : Pos) (time : StepTime) (way : StepWay) (stride : Stride) (place : Rc SharedPlace Global)
    → expr_tree (exprs.Step at time way stride place) ≡ trees.Step at time way stride (place_tree place.value)
unfolding expr_tree
expr_step at time way stride place = refl

pub expr_and : (at : Pos) (left : Rc SharedExpr Global) (right : Rc SharedExpr Global)
    → expr_tree (exprs.And at left right) ≡ trees.And at (expr_tree left.value) (expr_tree right.value)
unfolding expr_tree
expr_and at left right = refl

pub expr_or : (at : Pos) (left : Rc SharedExpr Global) (right : Rc SharedExpr Global)
    → expr_tree (exprs.Or at left right) ≡ trees.Or at (expr_tree left.value) (expr_tree right.value)
unfolding expr_tree
expr_or at left right = refl

pub expr_cond : (at : Pos) (ty : CType) (condition : Rc SharedExpr Global) (first : Rc SharedExpr Global) (second : Rc SharedExpr Global)
    → expr_tree (exprs.Cond at ty condition first second) ≡ trees.Cond at (ctype_tree ty) (expr_tree condition.value) (expr_tree first.value) (expr_tree second.value)
unfolding expr_tree
expr_cond at ty condition first second = refl

pub expr_comma : (at : Pos) (left : Rc SharedExpr Global) (right : Rc SharedExpr Global)
    → expr_tree (exprs.Comma at left right) ≡ trees.Comma at (expr_tree left.value) (expr_tree right.value)
unfolding expr_tree
expr_comma at left right = refl

pub expr_call : (at : Pos) (function : ℕ) (ty : CType) (used : Bool) (args : SharedExprs)
    → expr_tree (exprs.Call at function ty used args) ≡ trees.Call at function (ctype_tree ty) used (exprs_tree args)
unfolding expr_tree
expr_call at function ty used args = ap (trees.Call at function (ctype_tree ty) used) (exprs_row args)

pub expr_any : (at : Pos) (ty : IntType) → expr_tree (exprs.Any at ty) ≡ trees.Any at ty
unfolding expr_tree
expr_any at ty = refl

pub expr_assume : (at : Pos) (operand : Rc SharedExpr Global) → expr_tree (exprs.Assume at operand) ≡ trees.Assume at (expr_tree operand.value)
unfolding expr_tree
expr_assume at operand = refl

pub expr_assert : (at : Pos) (operand : Rc SharedExpr Global) → expr_tree (exprs.Assert at operand) ≡ trees.Assert at (expr_tree operand.value)
unfolding expr_tree
expr_assert at operand = refl

pub place_var : (at : Pos) (object : ℕ) (ty : CType) (is_const : Bool)
    → place_tree (places.Var at object ty is_const) ≡ trees.Var at object (ctype_tree ty) is_const
unfolding place_tree
place_var at object ty is_const = refl

pub place_deref : (at : Pos) (kind : DerefKind) (ty : CType) (is_const : Bool) (pointer : Rc SharedExpr Global)
    → place_tree (places.Deref at kind ty is_const pointer) ≡ trees.Deref at kind (ctype_tree ty) is_const (expr_tree pointer.value)
unfolding place_tree
place_deref at kind ty is_const pointer = refl

pub place_member : (at : Pos) (member : ℕ) (offset : ℕ) (ty : CType) (is_const : Bool) (place : Rc SharedPlace Global)
    → place_tree (places.Member at member offset ty is_const place) ≡ trees.Member at member offset (ctype_tree ty) is_const (place_tree place.value)
unfolding place_tree
place_member at member offset ty is_const place = refl

pub exprs_nil : exprs_from [] ≡ trees.none
unfolding exprs_from
exprs_nil = refl

pub exprs_cons : (item : Rc SharedExpr Global) (rest : List (Rc SharedExpr Global))
    → exprs_from (item ∷ rest) ≡ trees.more (expr_tree item.value) (exprs_from rest)
unfolding exprs_from
exprs_cons item rest = refl

pub ruleset shared_expr_trees = (
  expr_const,
  expr_null,
  expr_load,
  expr_address_of,
  expr_decay,
  expr_whole,
  expr_unary,
  expr_binary,
  expr_convert,
  expr_assign,
  expr_assign_struct,
  expr_compound,
  expr_step,
  expr_and,
  expr_or,
  expr_cond,
  expr_comma,
  expr_call,
  expr_any,
  expr_assume,
  expr_assert,
  place_var,
  place_deref,
  place_member,
  exprs_nil,
  exprs_cons,
)
