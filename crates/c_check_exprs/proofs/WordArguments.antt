-- Inputs, `__assume` and `__assert`, by how many arguments there are.
use Rattle.std.proofs.Common.{◌≡◌, refl, ap, List, [], ◌∷◌, ◌++◌, length, length-append, arith}
use Rattle.std.specs.Prelude.{None}
use Rattle.c_syntax_written.specs.declared.place.Pos.{Pos}
use Rattle.c_syntax_written.specs.declared.int_type.IntType.{IntType}
use Rattle.c_syntax.specs.declared.op.Op.TheVariants as ops
use Rattle.c_syntax.specs.declared.typed.TExpr.{TExpr}
use Rattle.c_syntax.specs.TypedExpr.{TExprTree, none, more, Any, texpr_tree, texprs_from}
use Rattle.c_typing.specs.World.{World, no_rule, Refused, Typed}
use Rattle.c_typing.specs.Operands.{Value}
use Rattle.c_typing.specs.Declarators.{unknown_function}
use Rattle.c_typing.specs.Nodes.{told, input_read}

pub input_none : (w : World) (at : Pos) (t : IntType) (items : List TExpr) → length items ≡ 0 → input_read w at t (texprs_from items) ≡ Typed (Value (Any at t)) w
unfolding texprs_from
input_none w at t [] h = refl
input_none w at t (e ∷ rest) h = absurd (omega arith)

pub input_some : (w : World) (at : Pos) (t : IntType) (items : List TExpr) → (length items ≡ 0 → ⊥)
    → Refused (no_rule w at ops.Call (unknown_function w) None) ≡ input_read w at t (texprs_from items)
unfolding texprs_from
input_some w at t [] h = absurd (h refl)
input_some w at t (e ∷ rest) h = refl

pub told_wrong : (w : World) (at : Pos) (node : TExprTree → TExprTree) (items : List TExpr) → (length items ≡ 1 → ⊥)
    → Refused (no_rule w at ops.Call (unknown_function w) None) ≡ told w at node (texprs_from items)
unfolding texprs_from
told_wrong w at node [] h = refl
told_wrong w at node (e ∷ []) h = absurd (h refl)
told_wrong w at node (e ∷ f ∷ rest) h = refl

-- the one of them
pub only_one : (items rest : List TExpr) (e : TExpr) → items ≡ rest ++ e ∷ [] → length items ≡ 1 → texprs_from items ≡ more (texpr_tree e) none
unfolding texprs_from
only_one items [] e p h = ap texprs_from p
only_one items (f ∷ rest) e p h = absurd (omega (arith, ap length p, length-append rest (e ∷ [])))
