-- The trees of typed expressions, by the constructors that the code has.
use Rattle.std.proofs.Common.{◌≡◌, ℕ, ℤ, Bool, List, [], ◌∷◌, ◌++◌, refl, ap, ◌∙◌}
use Rattle.std.specs.declared.boxed.Box.{Box}
use Rattle.std.specs.declared.alloc.Global.{Global}
use Rattle.c_syntax_written.specs.declared.place.Pos.{Pos}
use Rattle.c_syntax_written.specs.declared.int_type.IntType.{IntType}
use Rattle.c_syntax.specs.declared.types.CType.{CType}
use Rattle.c_syntax.specs.declared.operator.TUnaryOp.{TUnaryOp}
use Rattle.c_syntax.specs.declared.operator.TBinaryOp.{TBinaryOp}
use Rattle.c_syntax.specs.declared.operator.Extent.{Extent}
use Rattle.c_syntax.specs.declared.operator.Stride.{Stride}
use Rattle.c_syntax.specs.declared.operator.StepTime.{StepTime}
use Rattle.c_syntax_written.specs.declared.step.StepWay.{StepWay}
use Rattle.c_syntax.specs.declared.operator.DerefKind.{DerefKind}
use Rattle.c_syntax.specs.declared.typed.TExpr.{TExpr, Row_of-TExpr, end_of-TExpr, more_of-TExpr, items-the_row-TExpr, items_hidden-the_row-TExpr-0}
use Rattle.c_syntax.specs.declared.typed.TExpr.TheBlock.{hidden-the_row-TExpr-0}
use Rattle.c_syntax.specs.declared.typed.TExpr.TheVariants as exprs
use Rattle.c_syntax.specs.declared.typed.TLvalue.{TLvalue}
use Rattle.c_syntax.specs.declared.typed.TLvalue.TheVariants as places
use Rattle.c_syntax.specs.declared.typed.TExprs.{TExprs}
use Rattle.c_syntax.specs.Types.{ctype_tree}
use Rattle.c_syntax.specs.TypedExpr.{TExprTrees, texpr_tree, tlvalue_tree, texpr_rows, texprs_from, texprs_tree, texprs_then}
use Rattle.c_syntax.specs.TypedExpr as trees

texprs_rows : {m : _} (row : Row_of-TExpr m) → texpr_rows row ≡ texprs_from (items-the_row-TExpr m row)
unfolding texpr_rows texprs_from
texprs_rows end_of-TExpr = refl
texprs_rows (more_of-TExpr item rest) = ap (trees.more (texpr_tree item)) (texprs_rows rest)

-- the row of the items
texprs_row : (list : TExprs) → texpr_rows (hidden-the_row-TExpr-0 list.items) ≡ texprs_tree list
texprs_row list = texprs_rows (hidden-the_row-TExpr-0 list.items) ∙ ap texprs_from (items_hidden-the_row-TExpr-0 list.items)

pub texpr_const : (at : Pos) (ty : IntType) (value : ℤ) → texpr_tree (exprs.Const at ty value) ≡ trees.Const at ty value
unfolding texpr_tree
texpr_const at ty value = refl

pub texpr_null : (at : Pos) (ty : CType) → texpr_tree (exprs.Null at ty) ≡ trees.Null at (ctype_tree ty)
unfolding texpr_tree
texpr_null at ty = refl

pub texpr_load : (at : Pos) (place : Box TLvalue Global) → texpr_tree (exprs.Load at place) ≡ trees.Load at (tlvalue_tree place.value)
unfolding texpr_tree
texpr_load at place = refl

pub texpr_address_of : (at : Pos) (place : Box TLvalue Global) → texpr_tree (exprs.AddressOf at place) ≡ trees.AddressOf at (tlvalue_tree place.value)
unfolding texpr_tree
texpr_address_of at place = refl

pub texpr_decay : (at : Pos) (place : Box TLvalue Global) → texpr_tree (exprs.Decay at place) ≡ trees.Decay at (tlvalue_tree place.value)
unfolding texpr_tree
texpr_decay at place = refl

pub texpr_whole : (at : Pos) (place : Box TLvalue Global) → texpr_tree (exprs.Whole at place) ≡ trees.Whole at (tlvalue_tree place.value)
unfolding texpr_tree
texpr_whole at place = refl

pub texpr_unary : (at : Pos) (op : TUnaryOp) (operand : Box TExpr Global) → texpr_tree (exprs.Unary at op operand) ≡ trees.Unary at op (texpr_tree operand.value)
unfolding texpr_tree
texpr_unary at op operand = refl

pub texpr_binary : (at : Pos) (op : TBinaryOp) (left : Box TExpr Global) (right : Box TExpr Global) → texpr_tree (exprs.Binary at op left right) ≡ trees.Binary at op (texpr_tree left.value) (texpr_tree right.value)
unfolding texpr_tree
texpr_binary at op left right = refl

pub texpr_convert : (at : Pos) (ty : CType) (operand : Box TExpr Global) → texpr_tree (exprs.Convert at ty operand) ≡ trees.Convert at (ctype_tree ty) (texpr_tree operand.value)
unfolding texpr_tree
texpr_convert at ty operand = refl

pub texpr_assign : (at : Pos) (place : Box TLvalue Global) (value : Box TExpr Global) → texpr_tree (exprs.Assign at place value) ≡ trees.Assign at (tlvalue_tree place.value) (texpr_tree value.value)
unfolding texpr_tree
texpr_assign at place value = refl

pub texpr_assign_struct : (at : Pos) (extent : Extent) (place : Box TLvalue Global) (source : Box TExpr Global) → texpr_tree (exprs.AssignStruct at extent place source) ≡ trees.AssignStruct at extent (tlvalue_tree place.value) (texpr_tree source.value)
unfolding texpr_tree
texpr_assign_struct at extent place source = refl

pub texpr_compound : (at : Pos) (op : TBinaryOp) (place : Box TLvalue Global) (value : Box TExpr Global) → texpr_tree (exprs.Compound at op place value) ≡ trees.Compound at op (tlvalue_tree place.value) (texpr_tree value.value)
unfolding texpr_tree
texpr_compound at op place value = refl

pub texpr_step : (at : Pos) (time : StepTime) (way : StepWay) (stride : Stride) (place : Box TLvalue Global) → texpr_tree (exprs.Step at time way stride place) ≡ trees.Step at time way stride (tlvalue_tree place.value)
unfolding texpr_tree
texpr_step at time way stride place = refl

pub texpr_and : (at : Pos) (left : Box TExpr Global) (right : Box TExpr Global) → texpr_tree (exprs.And at left right) ≡ trees.And at (texpr_tree left.value) (texpr_tree right.value)
unfolding texpr_tree
texpr_and at left right = refl

pub texpr_or : (at : Pos) (left : Box TExpr Global) (right : Box TExpr Global) → texpr_tree (exprs.Or at left right) ≡ trees.Or at (texpr_tree left.value) (texpr_tree right.value)
unfolding texpr_tree
texpr_or at left right = refl

pub texpr_cond : (at : Pos) (ty : CType) (condition : Box TExpr Global) (first : Box TExpr Global) (second : Box TExpr Global) → texpr_tree (exprs.Cond at ty condition first second) ≡ trees.Cond at (ctype_tree ty) (texpr_tree condition.value) (texpr_tree first.value) (texpr_tree second.value)
unfolding texpr_tree
texpr_cond at ty condition first second = refl

pub texpr_comma : (at : Pos) (left : Box TExpr Global) (right : Box TExpr Global) → texpr_tree (exprs.Comma at left right) ≡ trees.Comma at (texpr_tree left.value) (texpr_tree right.value)
unfolding texpr_tree
texpr_comma at left right = refl

pub texpr_call : (at : Pos) (function : ℕ) (ty : CType) (used : Bool) (args : TExprs) → texpr_tree (exprs.Call at function ty used args) ≡ trees.Call at function (ctype_tree ty) used (texprs_tree args)
unfolding texpr_tree
texpr_call at function ty used args = ap (trees.Call at function (ctype_tree ty) used) (texprs_row args)

pub texpr_any : (at : Pos) (ty : IntType) → texpr_tree (exprs.Any at ty) ≡ trees.Any at ty
unfolding texpr_tree
texpr_any at ty = refl

pub texpr_assume : (at : Pos) (operand : Box TExpr Global) → texpr_tree (exprs.Assume at operand) ≡ trees.Assume at (texpr_tree operand.value)
unfolding texpr_tree
texpr_assume at operand = refl

pub texpr_assert : (at : Pos) (operand : Box TExpr Global) → texpr_tree (exprs.Assert at operand) ≡ trees.Assert at (texpr_tree operand.value)
unfolding texpr_tree
texpr_assert at operand = refl

pub tlvalue_var : (at : Pos) (object : ℕ) (ty : CType) (is_const : Bool) → tlvalue_tree (places.Var at object ty is_const) ≡ trees.Var at object (ctype_tree ty) is_const
unfolding tlvalue_tree
tlvalue_var at object ty is_const = refl

pub tlvalue_deref : (at : Pos) (kind : DerefKind) (ty : CType) (is_const : Bool) (pointer : Box TExpr Global) → tlvalue_tree (places.Deref at kind ty is_const pointer) ≡ trees.Deref at kind (ctype_tree ty) is_const (texpr_tree pointer.value)
unfolding tlvalue_tree
tlvalue_deref at kind ty is_const pointer = refl

pub tlvalue_member : (at : Pos) (member : ℕ) (offset : ℕ) (ty : CType) (is_const : Bool) (place : Box TLvalue Global) → tlvalue_tree (places.Member at member offset ty is_const place) ≡ trees.Member at member offset (ctype_tree ty) is_const (tlvalue_tree place.value)
unfolding tlvalue_tree
tlvalue_member at member offset ty is_const place = refl

pub texprs_nil : texprs_from [] ≡ trees.none
unfolding texprs_from
texprs_nil = refl

pub texprs_cons : (item : TExpr) (rest : List TExpr) → texprs_from (item ∷ rest) ≡ trees.more (texpr_tree item) (texprs_from rest)
unfolding texprs_from
texprs_cons item rest = refl

pub texprs_push : (items : List TExpr) (last : TExpr) → texprs_from (items ++ last ∷ []) ≡ texprs_then (texprs_from items) (texpr_tree last)
unfolding texprs_from texprs_then
texprs_push [] last = refl
texprs_push (item ∷ items) last = ap (trees.more (texpr_tree item)) (texprs_push items last)

pub ruleset typed_expr_trees = (texpr_const, texpr_null, texpr_load, texpr_address_of, texpr_decay, texpr_whole, texpr_unary, texpr_binary, texpr_convert, texpr_assign, texpr_assign_struct, texpr_compound, texpr_step, texpr_and, texpr_or, texpr_cond, texpr_comma, texpr_call, texpr_any, texpr_assume, texpr_assert, tlvalue_var, tlvalue_deref, tlvalue_member, texprs_nil, texprs_cons, texprs_push)
