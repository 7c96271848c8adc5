-- The tree of each form of an expression.
use Rattle.std.proofs.Common.{ℤ, ◌≡◌, refl}
use Rattle.std.specs.declared.boxed.Box.{Box}
use Rattle.std.specs.declared.alloc.Global.{Global}
use Rattle.num_api.specs.declared.expr.NOp.{NOp}
use Rattle.num_api.specs.declared.expr.Var.{Var}
use Rattle.num_api.specs.declared.expr.NExpr.{NExpr}
use Rattle.num_api.specs.declared.expr.NExpr.TheVariants as exprs
use Rattle.num_api.specs.Exprs as trees
use Rattle.num_api.specs.Exprs.{nexpr_tree}

pub nexpr_const : (n : ℤ) → nexpr_tree (exprs.Const n) ≡ trees.Const n
unfolding nexpr_tree
nexpr_const n = refl

pub nexpr_read : (x : Var) → nexpr_tree (exprs.Read x) ≡ trees.Read x.0
unfolding nexpr_tree
nexpr_read x = refl

pub nexpr_unary : (op : NOp) (operand : Box NExpr Global) → nexpr_tree (exprs.Unary op operand) ≡ trees.Unary op (nexpr_tree operand.value)
unfolding nexpr_tree
nexpr_unary op operand = refl

pub nexpr_binary : (op : NOp) (left right : Box NExpr Global) → nexpr_tree (exprs.Binary op left right) ≡ trees.Binary op (nexpr_tree left.value) (nexpr_tree right.value)
unfolding nexpr_tree
nexpr_binary op left right = refl

pub ruleset nexpr_trees = (nexpr_const, nexpr_read, nexpr_unary, nexpr_binary)
