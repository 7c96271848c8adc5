-- Static addresses and places, node by node.
use Rattle.std.proofs.Common.{◌≡◌, ℕ, ℤ, Bool, List, pos, refl}
use Rattle.std.specs.Prelude.{Some, None}
use Rattle.c_syntax_written.specs.declared.place.Pos.{Pos}
use Rattle.c_syntax_written.specs.declared.int_type.IntType.{IntType}
use Rattle.c_syntax_written.specs.declared.step.StepWay.{StepWay}
use Rattle.c_syntax.specs.declared.operator.TUnaryOp.{TUnaryOp}
use Rattle.c_syntax.specs.declared.operator.TBinaryOp.{TBinaryOp}
use Rattle.c_syntax.specs.declared.operator.Extent.{Extent}
use Rattle.c_syntax.specs.declared.operator.Stride.{Stride}
use Rattle.c_syntax.specs.declared.operator.StepTime.{StepTime}
use Rattle.c_syntax.specs.declared.operator.DerefKind.{DerefKind}
use Rattle.c_syntax.specs.Types.{CTypeTree, ObjectTree}
use Rattle.c_syntax.specs.TypedExpr as trees
use Rattle.c_syntax.specs.TypedExpr.{TExprTree, TExprTrees, TLvalueTree}
use Rattle.c_typing.specs.Constants.{Nowhere, static_address, static_place, static_object, moved_by, moved_address, converted_address, constant_value}

pub address_null : (objects : List ObjectTree) (at : Pos) (ty : CTypeTree) → static_address objects (trees.Null at ty) ≡ Some Nowhere
unfolding static_address
address_null objects at ty = refl

pub address_address_of : (objects : List ObjectTree) (at : Pos) (place : TLvalueTree) → static_address objects (trees.AddressOf at place) ≡ static_place objects place
unfolding static_address static_place
address_address_of objects at place = refl

pub address_decay : (objects : List ObjectTree) (at : Pos) (place : TLvalueTree) → static_address objects (trees.Decay at place) ≡ static_place objects place
unfolding static_address static_place
address_decay objects at place = refl

pub address_binary : (objects : List ObjectTree) (at : Pos) (op : TBinaryOp) (left right : TExprTree) → static_address objects (trees.Binary at op left right)
    ≡ moved_by objects op (static_address objects left) (static_address objects right) (constant_value left) (constant_value right)
unfolding static_address
address_binary objects at op left right = refl

pub address_convert : (objects : List ObjectTree) (at : Pos) (ty : CTypeTree) (operand : TExprTree) → static_address objects (trees.Convert at ty operand) ≡ converted_address ty (static_address objects operand)
unfolding static_address
address_convert objects at ty operand = refl

pub address_const : (objects : List ObjectTree) (at : Pos) (ty : IntType) (value : ℤ) → static_address objects (trees.Const at ty value) ≡ None
unfolding static_address
address_const objects at ty value = refl

pub address_load : (objects : List ObjectTree) (at : Pos) (place : TLvalueTree) → static_address objects (trees.Load at place) ≡ None
unfolding static_address
address_load objects at place = refl

pub address_whole : (objects : List ObjectTree) (at : Pos) (place : TLvalueTree) → static_address objects (trees.Whole at place) ≡ None
unfolding static_address
address_whole objects at place = refl

pub address_unary : (objects : List ObjectTree) (at : Pos) (op : TUnaryOp) (operand : TExprTree) → static_address objects (trees.Unary at op operand) ≡ None
unfolding static_address
address_unary objects at op operand = refl

pub address_assign : (objects : List ObjectTree) (at : Pos) (place : TLvalueTree) (value : TExprTree) → static_address objects (trees.Assign at place value) ≡ None
unfolding static_address
address_assign objects at place value = refl

pub address_assign_struct : (objects : List ObjectTree) (at : Pos) (extent : Extent) (place : TLvalueTree) (source : TExprTree) → static_address objects (trees.AssignStruct at extent place source) ≡ None
unfolding static_address
address_assign_struct objects at extent place source = refl

pub address_compound : (objects : List ObjectTree) (at : Pos) (op : TBinaryOp) (place : TLvalueTree) (value : TExprTree) → static_address objects (trees.Compound at op place value) ≡ None
unfolding static_address
address_compound objects at op place value = refl

pub address_step : (objects : List ObjectTree) (at : Pos) (time : StepTime) (way : StepWay) (stride : Stride) (place : TLvalueTree) → static_address objects (trees.Step at time way stride place) ≡ None
unfolding static_address
address_step objects at time way stride place = refl

pub address_and : (objects : List ObjectTree) (at : Pos) (left right : TExprTree) → static_address objects (trees.And at left right) ≡ None
unfolding static_address
address_and objects at left right = refl

pub address_or : (objects : List ObjectTree) (at : Pos) (left right : TExprTree) → static_address objects (trees.Or at left right) ≡ None
unfolding static_address
address_or objects at left right = refl

pub address_cond : (objects : List ObjectTree) (at : Pos) (ty : CTypeTree) (condition first second : TExprTree) → static_address objects (trees.Cond at ty condition first second) ≡ None
unfolding static_address
address_cond objects at ty condition first second = refl

pub address_comma : (objects : List ObjectTree) (at : Pos) (left right : TExprTree) → static_address objects (trees.Comma at left right) ≡ None
unfolding static_address
address_comma objects at left right = refl

pub address_call : (objects : List ObjectTree) (at : Pos) (function : ℕ) (ty : CTypeTree) (used : Bool) (args : TExprTrees) → static_address objects (trees.Call at function ty used args) ≡ None
unfolding static_address
address_call objects at function ty used args = refl

pub address_any : (objects : List ObjectTree) (at : Pos) (ty : IntType) → static_address objects (trees.Any at ty) ≡ None
unfolding static_address
address_any objects at ty = refl

pub address_assume : (objects : List ObjectTree) (at : Pos) (operand : TExprTree) → static_address objects (trees.Assume at operand) ≡ None
unfolding static_address
address_assume objects at operand = refl

pub address_assert : (objects : List ObjectTree) (at : Pos) (operand : TExprTree) → static_address objects (trees.Assert at operand) ≡ None
unfolding static_address
address_assert objects at operand = refl

pub place_var : (objects : List ObjectTree) (at : Pos) (n : ℕ) (ty : CTypeTree) (is_const : Bool) → static_place objects (trees.Var at n ty is_const) ≡ static_object objects n
unfolding static_place
place_var objects at n ty is_const = refl

pub place_deref : (objects : List ObjectTree) (at : Pos) (kind : DerefKind) (ty : CTypeTree) (is_const : Bool) (pointer : TExprTree) → static_place objects (trees.Deref at kind ty is_const pointer) ≡ static_address objects pointer
unfolding static_address static_place
place_deref objects at kind ty is_const pointer = refl

pub place_member : (objects : List ObjectTree) (at : Pos) (k offset : ℕ) (ty : CTypeTree) (is_const : Bool) (place : TLvalueTree) → static_place objects (trees.Member at k offset ty is_const place)
    ≡ moved_address objects (static_place objects place) (Some (pos offset))
unfolding static_place
place_member objects at k offset ty is_const place = refl

pub ruleset the_addresses = (address_null, address_address_of, address_decay, address_binary, address_convert, address_const, address_load, address_whole, address_unary, address_assign, address_assign_struct, address_compound, address_step, address_and, address_or, address_cond, address_comma, address_call, address_any, address_assume, address_assert, place_var, place_deref, place_member)
