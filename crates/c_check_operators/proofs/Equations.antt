-- The value of a constant expression, node by node.
use Rattle.std.proofs.Common.{◌≡◌, ◌&&◌, ◌||◌, ℕ, ℤ, Bool, refl}
use Rattle.std.specs.Prelude.{Some, None}
use Rattle.c_syntax_written.specs.declared.place.Pos.{Pos}
use Rattle.c_syntax_written.specs.declared.int_type.IntType.{IntType}
use Rattle.c_syntax_written.specs.declared.step.StepWay.{StepWay}
use Rattle.c_syntax.specs.declared.operator.TUnaryOp.{TUnaryOp}
use Rattle.c_syntax.specs.declared.operator.TBinaryOp.{TBinaryOp}
use Rattle.c_syntax.specs.declared.operator.Extent.{Extent}
use Rattle.c_syntax.specs.declared.operator.Stride.{Stride}
use Rattle.c_syntax.specs.declared.operator.StepTime.{StepTime}
use Rattle.c_syntax.specs.Types.{CTypeTree}
use Rattle.c_syntax.specs.TypedExpr as trees
use Rattle.c_syntax.specs.TypedExpr.{TExprTree, TExprTrees, TLvalueTree}
use Rattle.c_syntax.specs.TypedParts.{texpr_type}
use Rattle.c_typing.specs.Constants.{constant_value, unary_constant, binary_constant, converted_constant, logical_constant, chosen_constant}

pub value_const : (at : Pos) (ty : IntType) (value : ℤ) → constant_value (trees.Const at ty value) ≡ Some value
unfolding constant_value
value_const at ty value = refl

pub value_unary : (at : Pos) (op : TUnaryOp) (operand : TExprTree) → constant_value (trees.Unary at op operand) ≡ unary_constant op (texpr_type operand) (constant_value operand)
unfolding constant_value
value_unary at op operand = refl

pub value_binary : (at : Pos) (op : TBinaryOp) (left right : TExprTree) → constant_value (trees.Binary at op left right) ≡ binary_constant op (texpr_type left) (texpr_type right) (constant_value left) (constant_value right)
unfolding constant_value
value_binary at op left right = refl

pub value_convert : (at : Pos) (ty : CTypeTree) (operand : TExprTree) → constant_value (trees.Convert at ty operand) ≡ converted_constant ty (constant_value operand)
unfolding constant_value
value_convert at ty operand = refl

pub value_and : (at : Pos) (left right : TExprTree) → constant_value (trees.And at left right) ≡ logical_constant (λ a b. a && b) (constant_value left) (constant_value right)
unfolding constant_value
value_and at left right = refl

pub value_or : (at : Pos) (left right : TExprTree) → constant_value (trees.Or at left right) ≡ logical_constant (λ a b. a || b) (constant_value left) (constant_value right)
unfolding constant_value
value_or at left right = refl

pub value_cond : (at : Pos) (ty : CTypeTree) (condition first second : TExprTree) → constant_value (trees.Cond at ty condition first second) ≡ chosen_constant ty (constant_value condition) (constant_value first) (constant_value second)
unfolding constant_value
value_cond at ty condition first second = refl

pub value_null : (at : Pos) (ty : CTypeTree) → constant_value (trees.Null at ty) ≡ None
unfolding constant_value
value_null at ty = refl

pub value_load : (at : Pos) (place : TLvalueTree) → constant_value (trees.Load at place) ≡ None
unfolding constant_value
value_load at place = refl

pub value_address_of : (at : Pos) (place : TLvalueTree) → constant_value (trees.AddressOf at place) ≡ None
unfolding constant_value
value_address_of at place = refl

pub value_decay : (at : Pos) (place : TLvalueTree) → constant_value (trees.Decay at place) ≡ None
unfolding constant_value
value_decay at place = refl

pub value_whole : (at : Pos) (place : TLvalueTree) → constant_value (trees.Whole at place) ≡ None
unfolding constant_value
value_whole at place = refl

pub value_assign : (at : Pos) (place : TLvalueTree) (value : TExprTree) → constant_value (trees.Assign at place value) ≡ None
unfolding constant_value
value_assign at place value = refl

pub value_assign_struct : (at : Pos) (extent : Extent) (place : TLvalueTree) (source : TExprTree) → constant_value (trees.AssignStruct at extent place source) ≡ None
unfolding constant_value
value_assign_struct at extent place source = refl

pub value_compound : (at : Pos) (op : TBinaryOp) (place : TLvalueTree) (value : TExprTree) → constant_value (trees.Compound at op place value) ≡ None
unfolding constant_value
value_compound at op place value = refl

pub value_step : (at : Pos) (time : StepTime) (way : StepWay) (stride : Stride) (place : TLvalueTree) → constant_value (trees.Step at time way stride place) ≡ None
unfolding constant_value
value_step at time way stride place = refl

pub value_comma : (at : Pos) (left right : TExprTree) → constant_value (trees.Comma at left right) ≡ None
unfolding constant_value
value_comma at left right = refl

pub value_call : (at : Pos) (function : ℕ) (ty : CTypeTree) (used : Bool) (args : TExprTrees) → constant_value (trees.Call at function ty used args) ≡ None
unfolding constant_value
value_call at function ty used args = refl

pub value_any : (at : Pos) (ty : IntType) → constant_value (trees.Any at ty) ≡ None
unfolding constant_value
value_any at ty = refl

pub value_assume : (at : Pos) (operand : TExprTree) → constant_value (trees.Assume at operand) ≡ None
unfolding constant_value
value_assume at operand = refl

pub value_assert : (at : Pos) (operand : TExprTree) → constant_value (trees.Assert at operand) ≡ None
unfolding constant_value
value_assert at operand = refl

pub ruleset the_values = (value_const, value_unary, value_binary, value_convert, value_and, value_or, value_cond, value_null, value_load, value_address_of, value_decay, value_whole, value_assign, value_assign_struct, value_compound, value_step, value_comma, value_call, value_any, value_assume, value_assert)
