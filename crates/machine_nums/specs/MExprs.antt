-- Expressions whose nodes have a type, as trees without pointers. A variable is its number.
use Rattle.std.specs.Prelude.{ℕ, ℤ, Bool, false, ◌||◌, nat_eq}
use Rattle.c_syntax_written.specs.declared.int_type.IntType.{IntType}
use Rattle.num_api.specs.declared.expr.NOp.{NOp}
use Rattle.num_api.specs.Exprs.{NExprTree}
use Rattle.num_api.specs.Exprs as plain
use Rattle.machine_nums.specs.declared.expr.MExpr.{MExpr}
use Rattle.machine_nums.specs.declared.expr.MExpr.TheVariants as exprs

pub data MExprTree : Type 0 where
  Const : IntType → ℤ → MExprTree
  Read : ℕ → IntType → MExprTree
  Convert : IntType → MExprTree → MExprTree
  Unary : NOp → IntType → MExprTree → MExprTree
  Binary : NOp → IntType → MExprTree → MExprTree → MExprTree

unfoldable pub mexpr_tree : MExpr → MExprTree
mexpr_tree (exprs.Const t n) = Const t n
mexpr_tree (exprs.Read x t) = Read x.0 t
mexpr_tree (exprs.Convert' t operand_box operand) = Convert t (mexpr_tree operand)
mexpr_tree (exprs.Unary' op t operand_box operand) = Unary op t (mexpr_tree operand)
mexpr_tree (exprs.Binary' op t left_box left right_box right) = Binary op t (mexpr_tree left) (mexpr_tree right)

-- the type of the node
abbrev pub type_of : MExprTree → IntType
type_of (Const t n) = t
type_of (Read x t) = t
type_of (Convert t a) = t
type_of (Unary op t a) = t
type_of (Binary op t a b) = t

-- the expression reads the variable
abbrev pub reads : ℕ → MExprTree → Bool
reads x (Const t n) = false
reads x (Read y t) = nat_eq y x
reads x (Convert t a) = reads x a
reads x (Unary op t a) = reads x a
reads x (Binary op t a b) = reads x a || reads x b

-- something is so of each variable that the expression reads
abbrev pub OnVariables : (ℕ → Type 0) → MExprTree → Type 0
OnVariables P (Const t n) = Unit {0}
OnVariables P (Read x t) = P x
OnVariables P (Convert t a) = OnVariables P a
OnVariables P (Unary op t a) = OnVariables P a
OnVariables P (Binary op t a b) = OnVariables P a × OnVariables P b

-- the expression without its types: a conversion is its operand
abbrev pub untyped : MExprTree → NExprTree
untyped (Const t n) = plain.Const n
untyped (Read x t) = plain.Read x
untyped (Convert t a) = untyped a
untyped (Unary op t a) = plain.Unary op (untyped a)
untyped (Binary op t a b) = plain.Binary op (untyped a) (untyped b)
