-- The values of the nodes that stand for the operators of one operand.
use Rattle.std.proofs.Common.{◌≡◌, ℤ, negsuc, ◌-ℤ◌, neg_ℤ, pos, List, arith, sym, ◌∙◌, ap, subst}
use Rattle.std.specs.Prelude.{Option, Some}
use Rattle.std.specs.Int.{w32}
use Rattle.std.specs.Int.RustNames.{FitsSigned}
use Rattle.std.proofs.lemmas.Int.{ints}
use Rattle.std.specs.declared.boxed.Box.{Box}
use Rattle.std.specs.declared.alloc.Global.{Global}
use Rattle.c_syntax_written.specs.declared.int_type.IntType.{IntType}
use Rattle.c_syntax_written.specs.declared.int_type.IntType.TheVariants.{Int}
use Rattle.c_syntax_written.specs.Integer.{wrapped}
use Rattle.c_values.specs.Numbers.{complement}
use Rattle.num_api.specs.declared.expr.NOp.TheVariants.{Neg, Sub}
use Rattle.num_api.specs.Value.{unary_value, binary_value, of_one, of_two}
use Rattle.machine_nums.specs.declared.expr.MExpr.{MExpr}
use Rattle.machine_nums.specs.declared.expr.MExpr.TheVariants as exprs
use Rattle.machine_nums.specs.MExprs.{mexpr_tree}
use Rattle.machine_nums.specs.Machine.{machine_value, wrapped_value}
use Rattle.machine_nums.proofs.Trees.{mexpr_const, mexpr_unary, mexpr_binary}
use Rattle.machine_nums.proofs.Values.{wrapped-has}

-- what is in a box
in_box : (v : List ℤ) (n : ℤ) (box : Box MExpr Global) (a : MExpr) → box.value ≡ a → machine_value v (mexpr_tree a) ≡ Some n → machine_value v (mexpr_tree box.value) ≡ Some n
in_box v n box a e h = subst (λ (x : MExpr). machine_value v (mexpr_tree x) ≡ Some n) (sym e) h

pub minus_value : (v : List ℤ) (n : ℤ) (t : IntType) (box : Box MExpr Global) (a : MExpr) → box.value ≡ a → machine_value v (mexpr_tree a) ≡ Some n → machine_value v (mexpr_tree (exprs.Unary Neg t box)) ≡ Some (wrapped t (neg_ℤ n))
minus_value v n t box a e h =
    ap (machine_value v) (mexpr_unary Neg t box)
    ∙ ap (λ (o : Option ℤ). wrapped_value t (of_one (unary_value Neg) o)) (in_box v n box a e h)

ones_value : (v : List ℤ) (box : Box MExpr Global) → box.value ≡ exprs.Const Int (negsuc 0) → machine_value v (mexpr_tree box.value) ≡ Some (negsuc 0)
ones_value v box e = in_box v (negsuc 0) box (exprs.Const Int (negsuc 0)) e (ap (machine_value v) (mexpr_const Int (negsuc 0)) ∙ ap Some (wrapped-has Int (negsuc 0) fits))
  where
    fits : FitsSigned w32 (negsuc 0)
    fits = omega (arith, ints)

pub complement_value : (v : List ℤ) (n : ℤ) (t : IntType) (ones box : Box MExpr Global) (a : MExpr) → ones.value ≡ exprs.Const Int (negsuc 0) → box.value ≡ a → machine_value v (mexpr_tree a) ≡ Some n → machine_value v (mexpr_tree (exprs.Binary Sub t ones box)) ≡ Some (complement t n)
complement_value v n t ones box a e f h =
    ap (machine_value v) (mexpr_binary Sub t ones box)
    ∙ ap (λ (o : Option ℤ). wrapped_value t (of_two (binary_value Sub) o (machine_value v (mexpr_tree box.value)))) (ones_value v ones e)
    ∙ ap (λ (o : Option ℤ). wrapped_value t (of_two (binary_value Sub) (Some (negsuc 0)) o)) (in_box v n box a f h)
    ∙ ap (λ (z : ℤ). Some (wrapped t z)) (turned n)
  where
    turned : (n : ℤ) → negsuc 0 -ℤ n ≡ neg_ℤ n -ℤ pos 1
    turned n = omega (arith, ints)
