-- Expressions whose value is a multiple of a number by their form.
use Rattle.std.specs.Prelude.{ℤ, pos, ◌≡◌, ◌⊎◌}
use Rattle.num_api.specs.declared.expr.NOp.TheVariants.{Add, Mul}
use Rattle.num_api.specs.Exprs.{NExprTree, Const, Binary}
use Rattle.num_api.specs.Residues.{IsMultiple}

-- a c-fold expression: a constant that is a multiple of c, a product of which one factor is such a constant,
-- or a sum of c-fold expressions
pub data IsFold (c : ℤ) : NExprTree → Type 0 where
  constant : (n : ℤ) → IsMultiple c n → IsFold c (Const n)
  left_factor : (n : ℤ) (e : NExprTree) → IsMultiple c n → IsFold c (Binary Mul (Const n) e)
  right_factor : (e : NExprTree) (n : ℤ) → IsMultiple c n → IsFold c (Binary Mul e (Const n))
  sum : (a b : NExprTree) → IsFold c a → IsFold c b → IsFold c (Binary Add a b)

-- the numbers that the law on such expressions is for: the alignments of the types
abbrev pub IsAlignment : ℤ → Type 0
IsAlignment c = (c ≡ pos 1) ⊎ (c ≡ pos 2) ⊎ (c ≡ pos 4) ⊎ (c ≡ pos 8)
