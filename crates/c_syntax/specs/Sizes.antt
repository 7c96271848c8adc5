-- How large a typed tree is: a node counts one, an item of a list one, and each what it holds. So what stands in a node or a list is smaller than it.
use Rattle.std.specs.Prelude.{ℕ, ◌+◌}
use Rattle.c_syntax_written.specs.Sizes.{list_size, option_size}
use Rattle.c_syntax.specs.TypedExpr as exprs
use Rattle.c_syntax.specs.TypedExpr.{TExprTree, TLvalueTree, TExprTrees}
use Rattle.c_syntax.specs.TypedStmt as stmts
use Rattle.c_syntax.specs.TypedStmt.{TInitTree, TStmtTree, TStmtTrees}
use Rattle.c_syntax.specs.Program.{TFunctionTree, TProgramTree}

abbrev mutual
  pub texpr_size : TExprTree → ℕ
  texpr_size (exprs.Const _ _ _) = 1
  texpr_size (exprs.Null _ _) = 1
  texpr_size (exprs.Load _ place) = 1 + tlvalue_size place
  texpr_size (exprs.AddressOf _ place) = 1 + tlvalue_size place
  texpr_size (exprs.Decay _ place) = 1 + tlvalue_size place
  texpr_size (exprs.Whole _ place) = 1 + tlvalue_size place
  texpr_size (exprs.Unary _ _ expr) = 1 + texpr_size expr
  texpr_size (exprs.Binary _ _ first second) = 1 + (texpr_size first + texpr_size second)
  texpr_size (exprs.Convert _ _ expr) = 1 + texpr_size expr
  texpr_size (exprs.Assign _ place expr) = 1 + (tlvalue_size place + texpr_size expr)
  texpr_size (exprs.AssignStruct _ _ place expr) = 1 + (tlvalue_size place + texpr_size expr)
  texpr_size (exprs.Compound _ _ place expr) = 1 + (tlvalue_size place + texpr_size expr)
  texpr_size (exprs.Step _ _ _ _ place) = 1 + tlvalue_size place
  texpr_size (exprs.And _ first second) = 1 + (texpr_size first + texpr_size second)
  texpr_size (exprs.Or _ first second) = 1 + (texpr_size first + texpr_size second)
  texpr_size (exprs.Cond _ _ first second third) = 1 + (texpr_size first + texpr_size second + texpr_size third)
  texpr_size (exprs.Comma _ first second) = 1 + (texpr_size first + texpr_size second)
  texpr_size (exprs.Call _ _ _ _ args) = 1 + texprs_size args
  texpr_size (exprs.Any _ _) = 1
  texpr_size (exprs.Assume _ expr) = 1 + texpr_size expr
  texpr_size (exprs.Assert _ expr) = 1 + texpr_size expr

  pub tlvalue_size : TLvalueTree → ℕ
  tlvalue_size (exprs.Var _ _ _ _) = 1
  tlvalue_size (exprs.Deref _ _ _ _ expr) = 1 + texpr_size expr
  tlvalue_size (exprs.Member _ _ _ _ _ place) = 1 + tlvalue_size place

  pub texprs_size : TExprTrees → ℕ
  texprs_size exprs.none = 0
  texprs_size (exprs.more item rest) = 1 + (texpr_size item + texprs_size rest)

abbrev pub tinit_size : TInitTree → ℕ
tinit_size (stmts.Store _ _ expr) = 1 + texpr_size expr
tinit_size (stmts.Copy _ _ expr) = 1 + texpr_size expr

abbrev mutual
  pub tstmt_size : TStmtTree → ℕ
  tstmt_size (stmts.Empty _) = 1
  tstmt_size (stmts.Expr _ expr) = 1 + texpr_size expr
  tstmt_size (stmts.Block _ _ _ items) = 1 + tstmts_size items
  tstmt_size (stmts.Declare _ _ inits _) = 1 + list_size tinit_size inits
  tstmt_size (stmts.Static _ _) = 1
  tstmt_size (stmts.If _ expr first second) = 1 + (texpr_size expr + tstmt_size first + tstmt_size second)
  tstmt_size (stmts.While _ expr stmt) = 1 + (texpr_size expr + tstmt_size stmt)
  tstmt_size (stmts.DoWhile _ stmt expr) = 1 + (tstmt_size stmt + texpr_size expr)
  tstmt_size (stmts.For _ _ items first second stmt) = 1 + (tstmts_size items + option_size texpr_size first + option_size texpr_size second + tstmt_size stmt)
  tstmt_size (stmts.Switch _ expr _ _ items) = 1 + (texpr_size expr + tstmts_size items)
  tstmt_size (stmts.Break _) = 1
  tstmt_size (stmts.Continue _) = 1
  tstmt_size (stmts.Goto _ _) = 1
  tstmt_size (stmts.Return _ expr) = 1 + option_size texpr_size expr
  tstmt_size (stmts.Label _ _) = 1
  tstmt_size (stmts.Case _ _) = 1
  tstmt_size (stmts.Default _) = 1

  pub tstmts_size : TStmtTrees → ℕ
  tstmts_size stmts.none = 0
  tstmts_size (stmts.more item rest) = 1 + (tstmt_size item + tstmts_size rest)

-- what the bodies of the functions hold
abbrev pub tfunction_size : TFunctionTree → ℕ
tfunction_size function = 1 + option_size tstmt_size function.body

abbrev pub tprogram_size : TProgramTree → ℕ
tprogram_size program = list_size tfunction_size program.functions
