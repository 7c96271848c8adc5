-- Typed expressions and places as trees without pointers. Each constructor has the fields of the code's variant, in their order.
use Rattle.std.specs.Prelude.{ℕ, ℤ, Bool, List, [], ◌∷◌}
use Rattle.c_syntax_written.specs.declared.place.Pos.{Pos}
use Rattle.c_syntax_written.specs.declared.int_type.IntType.{IntType}
use Rattle.c_syntax.specs.declared.operator.TUnaryOp.{TUnaryOp}
use Rattle.c_syntax.specs.declared.operator.TBinaryOp.{TBinaryOp}
use Rattle.c_syntax.specs.declared.operator.Extent.{Extent}
use Rattle.c_syntax.specs.declared.operator.Stride.{Stride}
use Rattle.c_syntax.specs.declared.operator.StepTime.{StepTime}
use Rattle.c_syntax_written.specs.declared.step.StepWay.{StepWay}
use Rattle.c_syntax.specs.declared.operator.DerefKind.{DerefKind}
use Rattle.c_syntax.specs.declared.typed.TExpr.{TExpr, Row_of-TExpr, end_of-TExpr, more_of-TExpr}
use Rattle.c_syntax.specs.declared.typed.TExpr.TheVariants as exprs
use Rattle.c_syntax.specs.declared.typed.TLvalue.{TLvalue}
use Rattle.c_syntax.specs.declared.typed.TLvalue.TheVariants as places
use Rattle.c_syntax.specs.declared.typed.TExprs.{TExprs}
use Rattle.c_syntax.specs.Types.{CTypeTree, ctype_tree}

mutual
  pub data TExprTree : Type 0 where
    Const : Pos → IntType → ℤ → TExprTree
    Null : Pos → CTypeTree → TExprTree
    Load : Pos → TLvalueTree → TExprTree
    AddressOf : Pos → TLvalueTree → TExprTree
    Decay : Pos → TLvalueTree → TExprTree
    Whole : Pos → TLvalueTree → TExprTree
    Unary : Pos → TUnaryOp → TExprTree → TExprTree
    Binary : Pos → TBinaryOp → TExprTree → TExprTree → TExprTree
    Convert : Pos → CTypeTree → TExprTree → TExprTree
    Assign : Pos → TLvalueTree → TExprTree → TExprTree
    AssignStruct : Pos → Extent → TLvalueTree → TExprTree → TExprTree
    Compound : Pos → TBinaryOp → TLvalueTree → TExprTree → TExprTree
    Step : Pos → StepTime → StepWay → Stride → TLvalueTree → TExprTree
    And : Pos → TExprTree → TExprTree → TExprTree
    Or : Pos → TExprTree → TExprTree → TExprTree
    Cond : Pos → CTypeTree → TExprTree → TExprTree → TExprTree → TExprTree
    Comma : Pos → TExprTree → TExprTree → TExprTree
    Call : Pos → ℕ → CTypeTree → Bool → TExprTrees → TExprTree
    Any : Pos → IntType → TExprTree
    Assume : Pos → TExprTree → TExprTree
    Assert : Pos → TExprTree → TExprTree

  pub data TLvalueTree : Type 0 where
    Var : Pos → ℕ → CTypeTree → Bool → TLvalueTree
    Deref : Pos → DerefKind → CTypeTree → Bool → TExprTree → TLvalueTree
    Member : Pos → ℕ → ℕ → CTypeTree → Bool → TLvalueTree → TLvalueTree

  pub data TExprTrees : Type 0 where
    none : TExprTrees
    more : TExprTree → TExprTrees → TExprTrees

unfoldable mutual
  pub texpr_tree : TExpr → TExprTree
  texpr_tree (exprs.Const at ty value) = Const at ty value
  texpr_tree (exprs.Null at ty) = Null at (ctype_tree ty)
  texpr_tree (exprs.Load' at place_box place) = Load at (tlvalue_tree place)
  texpr_tree (exprs.AddressOf' at place_box place) = AddressOf at (tlvalue_tree place)
  texpr_tree (exprs.Decay' at place_box place) = Decay at (tlvalue_tree place)
  texpr_tree (exprs.Whole' at place_box place) = Whole at (tlvalue_tree place)
  texpr_tree (exprs.Unary' at op operand_box operand) = Unary at op (texpr_tree operand)
  texpr_tree (exprs.Binary' at op left_box left right_box right) = Binary at op (texpr_tree left) (texpr_tree right)
  texpr_tree (exprs.Convert' at ty operand_box operand) = Convert at (ctype_tree ty) (texpr_tree operand)
  texpr_tree (exprs.Assign' at place_box place value_box value) = Assign at (tlvalue_tree place) (texpr_tree value)
  texpr_tree (exprs.AssignStruct' at extent place_box place source_box source) = AssignStruct at extent (tlvalue_tree place) (texpr_tree source)
  texpr_tree (exprs.Compound' at op place_box place value_box value) = Compound at op (tlvalue_tree place) (texpr_tree value)
  texpr_tree (exprs.Step' at time way stride place_box place) = Step at time way stride (tlvalue_tree place)
  texpr_tree (exprs.And' at left_box left right_box right) = And at (texpr_tree left) (texpr_tree right)
  texpr_tree (exprs.Or' at left_box left right_box right) = Or at (texpr_tree left) (texpr_tree right)
  texpr_tree (exprs.Cond' at ty condition_box condition first_box first second_box second) =
      Cond at (ctype_tree ty) (texpr_tree condition) (texpr_tree first) (texpr_tree second)
  texpr_tree (exprs.Comma' at left_box left right_box right) = Comma at (texpr_tree left) (texpr_tree right)
  texpr_tree (exprs.Call' at function ty used args_shape args) = Call at function (ctype_tree ty) used (texpr_rows args)
  texpr_tree (exprs.Any at ty) = Any at ty
  texpr_tree (exprs.Assume' at operand_box operand) = Assume at (texpr_tree operand)
  texpr_tree (exprs.Assert' at operand_box operand) = Assert at (texpr_tree operand)

  pub tlvalue_tree : TLvalue → TLvalueTree
  tlvalue_tree (places.Var at object ty is_const) = Var at object (ctype_tree ty) is_const
  tlvalue_tree (places.Deref' at kind ty is_const pointer_box pointer) = Deref at kind (ctype_tree ty) is_const (texpr_tree pointer)
  tlvalue_tree (places.Member' at member offset ty is_const place_box place) = Member at member offset (ctype_tree ty) is_const (tlvalue_tree place)

  pub texpr_rows : {m : _} → Row_of-TExpr m → TExprTrees
  texpr_rows end_of-TExpr = none
  texpr_rows (more_of-TExpr item rest) = more (texpr_tree item) (texpr_rows rest)

unfoldable pub texprs_from : List TExpr → TExprTrees
texprs_from [] = none
texprs_from (item ∷ rest) = more (texpr_tree item) (texprs_from rest)

abbrev pub texprs_tree : TExprs → TExprTrees
texprs_tree list = texprs_from list.items.items

-- with one more at the end
unfoldable pub texprs_then : TExprTrees → TExprTree → TExprTrees
texprs_then none last = more last none
texprs_then (more item rest) last = more item (texprs_then rest last)
