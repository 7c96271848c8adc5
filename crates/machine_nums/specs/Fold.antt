-- Expressions of C whose value is a multiple of a number by their form.
use Rattle.std.specs.Prelude.{ℤ}
use Rattle.c_syntax_written.specs.declared.int_type.IntType.{IntType}
use Rattle.num_api.specs.declared.expr.NOp.TheVariants.{Add, Mul}
use Rattle.num_api.specs.Residues.{IsMultiple}
use Rattle.machine_nums.specs.MExprs.{MExprTree, Const, Convert, Binary}

-- a c-fold expression: a constant that is a multiple of c, a product of which one factor is such a constant, a sum of c-fold expressions,
-- or the value of one, wrapped into its type
pub data IsFold (c : ℤ) : MExprTree → Type 0 where
  constant : (t : IntType) (n : ℤ) → IsMultiple c n → IsFold c (Const t n)
  left_factor : (t u : IntType) (n : ℤ) (e : MExprTree) → IsMultiple c n → IsFold c (Binary Mul t (Const u n) e)
  right_factor : (t u : IntType) (e : MExprTree) (n : ℤ) → IsMultiple c n → IsFold c (Binary Mul t e (Const u n))
  sum : (t : IntType) (a b : MExprTree) → IsFold c a → IsFold c b → IsFold c (Binary Add t a b)
  value : (t : IntType) (a : MExprTree) → IsFold c a → IsFold c (Convert t a)
