-- Expressions over variables as trees without pointers. A variable is its number.
use Rattle.std.specs.Prelude.{ℕ, ℤ}
use Rattle.num_api.specs.declared.expr.NOp.{NOp}
use Rattle.num_api.specs.declared.expr.NExpr.{NExpr}
use Rattle.num_api.specs.declared.expr.NExpr.TheVariants as exprs

pub data NExprTree : Type 0 where
  Const : ℤ → NExprTree
  Read : ℕ → NExprTree
  Unary : NOp → NExprTree → NExprTree
  Binary : NOp → NExprTree → NExprTree → NExprTree

unfoldable pub nexpr_tree : NExpr → NExprTree
nexpr_tree (exprs.Const n) = Const n
nexpr_tree (exprs.Read x) = Read x.0
nexpr_tree (exprs.Unary' op operand_box operand) = Unary op (nexpr_tree operand)
nexpr_tree (exprs.Binary' op left_box left right_box right) = Binary op (nexpr_tree left) (nexpr_tree right)
