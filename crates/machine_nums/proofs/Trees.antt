-- The tree of each form of an expression.
use Rattle.std.proofs.Common.{ℤ, ◌≡◌, refl}
use Rattle.std.specs.declared.boxed.Box.{Box}
use Rattle.std.specs.declared.alloc.Global.{Global}
use Rattle.c_syntax_written.specs.declared.int_type.IntType.{IntType}
use Rattle.num_api.specs.declared.expr.NOp.{NOp}
use Rattle.num_api.specs.declared.expr.Var.{Var}
use Rattle.machine_nums.specs.declared.expr.MExpr.{MExpr}
use Rattle.machine_nums.specs.declared.expr.MExpr.TheVariants as exprs
use Rattle.machine_nums.specs.MExprs as trees
use Rattle.machine_nums.specs.MExprs.{mexpr_tree}

pub mexpr_const : (t : IntType) (n : ℤ) → mexpr_tree (exprs.Const t n) ≡ trees.Const t n
unfolding mexpr_tree
mexpr_const t n = refl

pub mexpr_read : (x : Var) (t : IntType) → mexpr_tree (exprs.Read x t) ≡ trees.Read x.0 t
unfolding mexpr_tree
mexpr_read x t = refl

pub mexpr_convert : (t : IntType) (operand : Box MExpr Global) → mexpr_tree (exprs.Convert t operand) ≡ trees.Convert t (mexpr_tree operand.value)
unfolding mexpr_tree
mexpr_convert t operand = refl

pub mexpr_unary : (op : NOp) (t : IntType) (operand : Box MExpr Global) → mexpr_tree (exprs.Unary op t operand) ≡ trees.Unary op t (mexpr_tree operand.value)
unfolding mexpr_tree
mexpr_unary op t operand = refl

pub mexpr_binary : (op : NOp) (t : IntType) (left right : Box MExpr Global) → mexpr_tree (exprs.Binary op t left right) ≡ trees.Binary op t (mexpr_tree left.value) (mexpr_tree right.value)
unfolding mexpr_tree
mexpr_binary op t left right = refl

pub ruleset mexpr_trees = (mexpr_const, mexpr_read, mexpr_convert, mexpr_unary, mexpr_binary)
