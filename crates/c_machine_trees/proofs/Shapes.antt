-- A node of a shape is one of the variants that have it.
use Rattle.std.proofs.Common.{◌≡◌, ℕ, ℤ, Bool, List, refl}
use Rattle.std.specs.Prelude.{Option}
use Rattle.std.specs.declared.boxed.Box.{Box}
use Rattle.std.specs.declared.alloc.Global.{Global}
use Rattle.c_syntax_written.specs.declared.place.Pos.{Pos}
use Rattle.c_syntax_written.specs.declared.int_type.IntType.{IntType}
use Rattle.c_syntax_written.specs.declared.step.StepWay.{StepWay}
use Rattle.c_syntax.specs.declared.operator.TUnaryOp.{TUnaryOp}
use Rattle.c_syntax.specs.declared.operator.TBinaryOp.{TBinaryOp}
use Rattle.c_syntax.specs.declared.operator.Extent.{Extent}
use Rattle.c_syntax.specs.declared.operator.Stride.{Stride}
use Rattle.c_syntax.specs.declared.operator.StepTime.{StepTime}
use Rattle.c_syntax.specs.declared.types.CType.{CType}
use Rattle.c_syntax.specs.declared.typed.TExpr.{TExpr}
use Rattle.c_syntax.specs.declared.typed.TExpr.TheVariants as exprs
use Rattle.c_syntax.specs.declared.typed.TLvalue.{TLvalue}
use Rattle.c_syntax.specs.declared.statement.TInit.{TInit}
use Rattle.c_syntax.specs.declared.statement.TStmt.{TStmt}
use Rattle.c_syntax.specs.declared.statement.TStmt.TheVariants as stmts
use Rattle.c_syntax.specs.TypedExpr.{texpr_tree}
use Rattle.c_syntax.specs.TypedStmt.{tstmt_tree}
use Rattle.c_machine_trees.specs.Shapes.{HasOneOperand, HasOperands, HoldsExpressions, HoldsNothing, IsAssignment, IsGuarded, IsLeaf, IsUseOfPlace}

pub no_leaf : (e : TExpr) → IsLeaf (texpr_tree e)
    → ((at : Pos) (ty : IntType) (value : ℤ) → e ≡ exprs.Const at ty value → ⊥)
    → ((at : Pos) (ty : IntType) → e ≡ exprs.Any at ty → ⊥)
    → ((at : Pos) (ty : CType) → e ≡ exprs.Null at ty → ⊥) → ⊥
unfolding texpr_tree
no_leaf (exprs.Const at ty value) h const any null = const at ty value refl
no_leaf (exprs.Any at ty) h const any null = any at ty refl
no_leaf (exprs.Null at ty) h const any null = null at ty refl
no_leaf _ h const any null = h

pub no_use : (e : TExpr) → IsUseOfPlace (texpr_tree e)
    → ((at : Pos) (place : Box TLvalue Global) → e ≡ exprs.Load at place → ⊥)
    → ((at : Pos) (place : Box TLvalue Global) → e ≡ exprs.AddressOf at place → ⊥)
    → ((at : Pos) (place : Box TLvalue Global) → e ≡ exprs.Decay at place → ⊥)
    → ((at : Pos) (place : Box TLvalue Global) → e ≡ exprs.Whole at place → ⊥)
    → ((at : Pos) (time : StepTime) (way : StepWay) (stride : Stride) (place : Box TLvalue Global)
    → e ≡ exprs.Step at time way stride place → ⊥) → ⊥
unfolding texpr_tree
no_use (exprs.Load' at place_box place) h load address decay whole step = load at _ refl
no_use (exprs.AddressOf' at place_box place) h load address decay whole step = address at _ refl
no_use (exprs.Decay' at place_box place) h load address decay whole step = decay at _ refl
no_use (exprs.Whole' at place_box place) h load address decay whole step = whole at _ refl
no_use (exprs.Step' at time way stride place_box place) h load address decay whole step = step at time way stride _ refl
no_use _ h load address decay whole step = h

pub no_operation : (e : TExpr) → HasOneOperand (texpr_tree e)
    → ((at : Pos) (op : TUnaryOp) (operand : Box TExpr Global) → e ≡ exprs.Unary at op operand → ⊥)
    → ((at : Pos) (ty : CType) (operand : Box TExpr Global) → e ≡ exprs.Convert at ty operand → ⊥)
    → ((at : Pos) (operand : Box TExpr Global) → e ≡ exprs.Assume at operand → ⊥)
    → ((at : Pos) (operand : Box TExpr Global) → e ≡ exprs.Assert at operand → ⊥) → ⊥
unfolding texpr_tree
no_operation (exprs.Unary' at op operand_box operand) h unary convert assume assert = unary at op _ refl
no_operation (exprs.Convert' at ty operand_box operand) h unary convert assume assert = convert at ty _ refl
no_operation (exprs.Assume' at operand_box operand) h unary convert assume assert = assume at _ refl
no_operation (exprs.Assert' at operand_box operand) h unary convert assume assert = assert at _ refl
no_operation _ h unary convert assume assert = h

pub no_operations : (e : TExpr) → HasOperands (texpr_tree e)
    → ((at : Pos) (op : TBinaryOp) (left right : Box TExpr Global) → e ≡ exprs.Binary at op left right → ⊥)
    → ((at : Pos) (left right : Box TExpr Global) → e ≡ exprs.And at left right → ⊥)
    → ((at : Pos) (left right : Box TExpr Global) → e ≡ exprs.Or at left right → ⊥)
    → ((at : Pos) (left right : Box TExpr Global) → e ≡ exprs.Comma at left right → ⊥)
    → ((at : Pos) (ty : CType) (condition first second : Box TExpr Global) → e ≡ exprs.Cond at ty condition first second → ⊥) → ⊥
unfolding texpr_tree
no_operations (exprs.Binary' at op left_box left right_box right) h binary and or comma cond = binary at op _ _ refl
no_operations (exprs.And' at left_box left right_box right) h binary and or comma cond = and at _ _ refl
no_operations (exprs.Or' at left_box left right_box right) h binary and or comma cond = or at _ _ refl
no_operations (exprs.Comma' at left_box left right_box right) h binary and or comma cond = comma at _ _ refl
no_operations (exprs.Cond' at ty condition_box condition first_box first second_box second) h binary and or comma cond = cond at ty _ _ _ refl
no_operations _ h binary and or comma cond = h

pub no_assignment : (e : TExpr) → IsAssignment (texpr_tree e)
    → ((at : Pos) (place : Box TLvalue Global) (value : Box TExpr Global) → e ≡ exprs.Assign at place value → ⊥)
    → ((at : Pos) (extent : Extent) (place : Box TLvalue Global) (source : Box TExpr Global) → e ≡ exprs.AssignStruct at extent place source → ⊥)
    → ((at : Pos) (op : TBinaryOp) (place : Box TLvalue Global) (value : Box TExpr Global) → e ≡ exprs.Compound at op place value → ⊥) → ⊥
unfolding texpr_tree
no_assignment (exprs.Assign' at place_box place value_box value) h assign struct compound = assign at _ _ refl
no_assignment (exprs.AssignStruct' at extent place_box place source_box source) h assign struct compound = struct at extent _ _ refl
no_assignment (exprs.Compound' at op place_box place value_box value) h assign struct compound = compound at op _ _ refl
no_assignment _ h assign struct compound = h

pub no_bare : (s : TStmt) → HoldsNothing (tstmt_tree s)
    → ((at : Pos) → s ≡ stmts.Empty at → ⊥)
    → ((at : Pos) (object : ℕ) → s ≡ stmts.Static at object → ⊥)
    → ((at : Pos) → s ≡ stmts.Break at → ⊥)
    → ((at : Pos) → s ≡ stmts.Continue at → ⊥)
    → ((at : Pos) (label : ℕ) → s ≡ stmts.Goto at label → ⊥)
    → ((at : Pos) (label : ℕ) → s ≡ stmts.Label at label → ⊥)
    → ((at : Pos) (value : ℤ) → s ≡ stmts.Case at value → ⊥)
    → ((at : Pos) → s ≡ stmts.Default at → ⊥) → ⊥
unfolding tstmt_tree
no_bare (stmts.Empty at) h empty static break continue goto label case default = empty at refl
no_bare (stmts.Static at object) h empty static break continue goto label case default = static at object refl
no_bare (stmts.Break at) h empty static break continue goto label case default = break at refl
no_bare (stmts.Continue at) h empty static break continue goto label case default = continue at refl
no_bare (stmts.Goto at to) h empty static break continue goto label case default = goto at to refl
no_bare (stmts.Label at named) h empty static break continue goto label case default = label at named refl
no_bare (stmts.Case at value) h empty static break continue goto label case default = case at value refl
no_bare (stmts.Default at) h empty static break continue goto label case default = default at refl
no_bare _ h empty static break continue goto label case default = h

pub no_plain : (s : TStmt) → HoldsExpressions (tstmt_tree s)
    → ((at : Pos) (value : TExpr) → s ≡ stmts.Expr at value → ⊥)
    → ((at : Pos) (object : ℕ) (inits : List TInit) (zeroes_rest : Bool) → s ≡ stmts.Declare at object inits zeroes_rest → ⊥)
    → ((at : Pos) (value : Option TExpr) → s ≡ stmts.Return at value → ⊥) → ⊥
unfolding tstmt_tree
no_plain (stmts.Expr at value) h expr declare return = expr at value refl
no_plain (stmts.Declare at object inits zeroes_rest) h expr declare return = declare at object inits zeroes_rest refl
no_plain (stmts.Return at value) h expr declare return = return at value refl
no_plain _ h expr declare return = h

pub no_guarded : (s : TStmt) → IsGuarded (tstmt_tree s)
    → ((at : Pos) (condition : TExpr) (first second : Box TStmt Global) → s ≡ stmts.If at condition first second → ⊥)
    → ((at : Pos) (condition : TExpr) (body : Box TStmt Global) → s ≡ stmts.While at condition body → ⊥)
    → ((at : Pos) (body : Box TStmt Global) (condition : TExpr) → s ≡ stmts.DoWhile at body condition → ⊥) → ⊥
unfolding tstmt_tree
no_guarded (stmts.If' at condition first_box first second_box second) h either while do_while = either at condition _ _ refl
no_guarded (stmts.While' at condition body_box body) h either while do_while = while at condition _ refl
no_guarded (stmts.DoWhile' at body_box body condition) h either while do_while = do_while at _ condition refl
no_guarded _ h either while do_while = h
