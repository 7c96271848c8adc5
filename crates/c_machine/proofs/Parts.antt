-- Expressions that have parts.
use Rattle.std.proofs.Common.{◌≡◌, ℤ, List, refl}
use Rattle.c_syntax_written.specs.declared.int_type.IntType.{IntType}
use Rattle.c_syntax_written.specs.declared.place.Pos.{Pos}
use Rattle.c_syntax.specs.declared.types.CType.{CType}
use Rattle.c_syntax.specs.Program.{TProgramTree}
use Rattle.c_values.specs.Places.{ObjectMemory}
use Rattle.c_machine_trees.specs.declared.expression.SharedExpr.{SharedExpr}
use Rattle.c_machine_trees.specs.declared.expression.SharedExpr.TheVariants as exprs
use Rattle.c_machine_trees.specs.Expressions.{expr_tree}
use Rattle.c_steps.specs.Work.{Item}
use Rattle.c_steps.specs.States.{Held, goes}
use Rattle.c_steps.specs.Expressions.{eval_step, parts_of}

-- an expression that gives no value at once puts its parts in front
pub puts_parts : (p : TProgramTree) (e : SharedExpr) (w : List Item) (s : List Held) (m : ObjectMemory) (i : List ℤ)
    → ((at : Pos) (ty : IntType) (n : ℤ) → e ≡ exprs.Const at ty n → ⊥) → ((at : Pos) (ty : CType) → e ≡ exprs.Null at ty → ⊥)
    → ((at : Pos) (ty : IntType) → e ≡ exprs.Any at ty → ⊥) → eval_step p (expr_tree e) w s m i ≡ goes (parts_of p (expr_tree e) w) s m i
unfolding expr_tree
puts_parts p (exprs.Const at ty n) w s m i a b c = absurd (a at ty n refl)
puts_parts p (exprs.Null at ty) w s m i a b c = absurd (b at ty refl)
puts_parts p (exprs.Any at ty) w s m i a b c = absurd (c at ty refl)
puts_parts p e w s m i a b c = refl
