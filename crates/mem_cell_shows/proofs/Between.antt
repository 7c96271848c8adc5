-- Numbers that lie between others.
use Rattle.std.proofs.Common.{ℤ, ◌≡◌, ◌≤ℤ◌, Bool, true, false, ◌||◌, List, Some, refl, ap, ◌∙◌, arith}
use Rattle.std.specs.Int.RustNames.{int_lt}
use Rattle.std.proofs.lemmas.Int.{ints}
use Rattle.c_syntax_written.specs.declared.int_type.IntType.TheVariants.{Long}
use Rattle.c_syntax_written.specs.Integer.{HasNumber, wrapped}
use Rattle.c_syntax.specs.Failing.{is_outside}
use Rattle.machine_nums.specs.declared.expr.MExpr.TheVariants as exprs
use Rattle.machine_nums.specs.MExprs.{mexpr_tree}
use Rattle.machine_nums.specs.Machine.{machine_value}
use Rattle.machine_nums.proofs.Trees.{mexpr_const}
use Rattle.machine_nums.proofs.Values.{wrapped-has}

pub const-is : (v : List ℤ) (k n : ℤ) → k ≡ n → HasNumber Long n → machine_value v (mexpr_tree (exprs.Const Long k)) ≡ Some n
const-is v k n same has = ap (machine_value v) (mexpr_const Long k) ∙ ap Some (ap (wrapped Long) same ∙ wrapped-has Long n has)

pub or-false : (a b : Bool) → (a || b) ≡ false → (a ≡ false) × (b ≡ false)
or-false true b h = cc
or-false false b h = (refl, h)

-- what is not outside lies between the ends
pub inside : (lo hi n : ℤ) → is_outside lo hi n ≡ false → (lo ≤ℤ n) × (n ≤ℤ hi)
inside lo hi n h = let r = or-false (int_lt n lo) (int_lt hi n) h in let a = r.0 in let b = r.1 in (omega (arith, ints, a), omega (arith, ints, b))
