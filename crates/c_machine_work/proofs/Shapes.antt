-- An expression of a shape is one of the variants that have it.
use Rattle.std.proofs.Common.{◌≡◌, refl}
use Rattle.std.specs.declared.rc.Rc.{Rc}
use Rattle.std.specs.declared.alloc.Global.{Global}
use Rattle.c_syntax_written.specs.declared.place.Pos.{Pos}
use Rattle.c_syntax_written.specs.declared.step.StepWay.{StepWay}
use Rattle.c_syntax.specs.declared.operator.TUnaryOp.{TUnaryOp}
use Rattle.c_syntax.specs.declared.operator.TBinaryOp.{TBinaryOp}
use Rattle.c_syntax.specs.declared.operator.Extent.{Extent}
use Rattle.c_syntax.specs.declared.operator.Stride.{Stride}
use Rattle.c_syntax.specs.declared.operator.StepTime.{StepTime}
use Rattle.c_syntax.specs.declared.types.CType.{CType}
use Rattle.c_machine_trees.specs.declared.expression.SharedExpr.{SharedExpr}
use Rattle.c_machine_trees.specs.declared.expression.SharedExpr.TheVariants as exprs
use Rattle.c_machine_trees.specs.declared.expression.SharedPlace.{SharedPlace}
use Rattle.c_machine_trees.specs.Expressions.{expr_tree}
use Rattle.c_machine_trees.specs.Shapes.{HasOneOperand}
use Rattle.c_machine_work.specs.Shapes.{UsesPlace}

pub no_operand : (e : SharedExpr) → HasOneOperand (expr_tree e)
    → ((at : Pos) (op : TUnaryOp) (operand : Rc SharedExpr Global) → e ≡ exprs.Unary at op operand → ⊥)
    → ((at : Pos) (ty : CType) (operand : Rc SharedExpr Global) → e ≡ exprs.Convert at ty operand → ⊥)
    → ((at : Pos) (operand : Rc SharedExpr Global) → e ≡ exprs.Assume at operand → ⊥)
    → ((at : Pos) (operand : Rc SharedExpr Global) → e ≡ exprs.Assert at operand → ⊥) → ⊥
unfolding expr_tree
no_operand (exprs.Unary' at op share operand) h unary convert assume assert = unary at op _ refl
no_operand (exprs.Convert' at ty share operand) h unary convert assume assert = convert at ty _ refl
no_operand (exprs.Assume' at share operand) h unary convert assume assert = assume at _ refl
no_operand (exprs.Assert' at share operand) h unary convert assume assert = assert at _ refl
no_operand _ h unary convert assume assert = h

pub no_use : (e : SharedExpr) → UsesPlace (expr_tree e)
    → ((at : Pos) (place : Rc SharedPlace Global) → e ≡ exprs.AddressOf at place → ⊥)
    → ((at : Pos) (place : Rc SharedPlace Global) → e ≡ exprs.Decay at place → ⊥)
    → ((at : Pos) (place : Rc SharedPlace Global) → e ≡ exprs.Load at place → ⊥)
    → ((at : Pos) (place : Rc SharedPlace Global) → e ≡ exprs.Whole at place → ⊥)
    → ((at : Pos) (place : Rc SharedPlace Global) (value : Rc SharedExpr Global) → e ≡ exprs.Assign at place value → ⊥)
    → ((at : Pos) (extent : Extent) (place : Rc SharedPlace Global) (source : Rc SharedExpr Global) → e ≡ exprs.AssignStruct at extent place source → ⊥)
    → ((at : Pos) (op : TBinaryOp) (place : Rc SharedPlace Global) (value : Rc SharedExpr Global) → e ≡ exprs.Compound at op place value → ⊥)
    → ((at : Pos) (time : StepTime) (way : StepWay) (stride : Stride) (place : Rc SharedPlace Global) → e ≡ exprs.Step at time way stride place → ⊥) → ⊥
unfolding expr_tree
no_use (exprs.AddressOf' at share place) h address decay load whole assign struct compound step = address at _ refl
no_use (exprs.Decay' at share place) h address decay load whole assign struct compound step = decay at _ refl
no_use (exprs.Load' at share place) h address decay load whole assign struct compound step = load at _ refl
no_use (exprs.Whole' at share place) h address decay load whole assign struct compound step = whole at _ refl
no_use (exprs.Assign' at place_share place value_share value) h address decay load whole assign struct compound step = assign at _ _ refl
no_use (exprs.AssignStruct' at extent place_share place source_share source) h address decay load whole assign struct compound step =
    struct at extent _ _ refl
no_use (exprs.Compound' at op place_share place value_share value) h address decay load whole assign struct compound step = compound at op _ _ refl
no_use (exprs.Step' at time way stride share place) h address decay load whole assign struct compound step = step at time way stride _ refl
no_use _ h address decay load whole assign struct compound step = h
