-- The trees of typed expressions and places whose parts are shared: those of what was shared.
use Rattle.std.specs.Prelude.{List, [], ◌∷◌}
use Rattle.std.specs.declared.rc.Rc.{Rc}
use Rattle.std.specs.declared.alloc.Global.{Global}
use Rattle.c_syntax.specs.Types.{ctype_tree}
use Rattle.c_syntax.specs.TypedExpr.{TExprTree, TLvalueTree, TExprTrees, none, more}
use Rattle.c_syntax.specs.TypedExpr.{Const, Null, Load, AddressOf, Decay, Whole, Unary, Binary, Convert, Assign, AssignStruct, Compound}
use Rattle.c_syntax.specs.TypedExpr.{Step, And, Or, Cond, Comma, Call, Any, Assume, Assert, Var, Deref, Member}
use Rattle.c_machine_trees.specs.declared.expression.SharedExpr.{SharedExpr, Row_of-SharedExprs-items-1, end_of-SharedExprs-items-1, more_of-SharedExprs-items-1}
use Rattle.c_machine_trees.specs.declared.expression.SharedExpr.TheVariants as exprs
use Rattle.c_machine_trees.specs.declared.expression.SharedPlace.{SharedPlace}
use Rattle.c_machine_trees.specs.declared.expression.SharedPlace.TheVariants as places
use Rattle.c_machine_trees.specs.declared.expression.SharedExprs.{SharedExprs}

unfoldable mutual
  pub expr_tree : SharedExpr → TExprTree
  expr_tree (exprs.Const at ty value) = Const at ty value
  expr_tree (exprs.Null at ty) = Null at (ctype_tree ty)
  expr_tree (exprs.Load' at place_share place) = Load at (place_tree place)
  expr_tree (exprs.AddressOf' at place_share place) = AddressOf at (place_tree place)
  expr_tree (exprs.Decay' at place_share place) = Decay at (place_tree place)
  expr_tree (exprs.Whole' at place_share place) = Whole at (place_tree place)
  expr_tree (exprs.Unary' at op operand_share operand) = Unary at op (expr_tree operand)
  expr_tree (exprs.Binary' at op left_share left right_share right) = Binary at op (expr_tree left) (expr_tree right)
  expr_tree (exprs.Convert' at ty operand_share operand) = Convert at (ctype_tree ty) (expr_tree operand)
  expr_tree (exprs.Assign' at place_share place value_share value) = Assign at (place_tree place) (expr_tree value)
  expr_tree (exprs.AssignStruct' at extent place_share place source_share source) = AssignStruct at extent (place_tree place) (expr_tree source)
  expr_tree (exprs.Compound' at op place_share place value_share value) = Compound at op (place_tree place) (expr_tree value)
  expr_tree (exprs.Step' at time way stride place_share place) = Step at time way stride (place_tree place)
  expr_tree (exprs.And' at left_share left right_share right) = And at (expr_tree left) (expr_tree right)
  expr_tree (exprs.Or' at left_share left right_share right) = Or at (expr_tree left) (expr_tree right)
  expr_tree (exprs.Cond' at ty condition_share condition first_share first second_share second) =
      Cond at (ctype_tree ty) (expr_tree condition) (expr_tree first) (expr_tree second)
  expr_tree (exprs.Comma' at left_share left right_share right) = Comma at (expr_tree left) (expr_tree right)
  expr_tree (exprs.Call' at function ty used args_shape args) = Call at function (ctype_tree ty) used (expr_rows args)
  expr_tree (exprs.Any at ty) = Any at ty
  expr_tree (exprs.Assume' at operand_share operand) = Assume at (expr_tree operand)
  expr_tree (exprs.Assert' at operand_share operand) = Assert at (expr_tree operand)

  pub place_tree : SharedPlace → TLvalueTree
  place_tree (places.Var at object ty is_const) = Var at object (ctype_tree ty) is_const
  place_tree (places.Deref' at kind ty is_const pointer_share pointer) = Deref at kind (ctype_tree ty) is_const (expr_tree pointer)
  place_tree (places.Member' at member offset ty is_const place_share place) = Member at member offset (ctype_tree ty) is_const (place_tree place)

  pub expr_rows : {m : _} → Row_of-SharedExprs-items-1 m → TExprTrees
  expr_rows end_of-SharedExprs-items-1 = none
  expr_rows (more_of-SharedExprs-items-1 share item rest) = more (expr_tree item) (expr_rows rest)

unfoldable pub exprs_from : List (Rc SharedExpr Global) → TExprTrees
exprs_from [] = none
exprs_from (item ∷ rest) = more (expr_tree item.value) (exprs_from rest)

abbrev pub exprs_tree : SharedExprs → TExprTrees
exprs_tree list = exprs_from list.items.items
