use Rattle.std.proofs.Common.{refl, sym, ap, ◌∙◌, subst}
use Rattle.std.specs.Prelude.{None, Some}
use Rattle.std.proofs.lemmas.Option.{IfSome_then}
use Rattle.c_syntax_written.specs.Written.{ExprTree, expr_tree}
use Rattle.c_syntax_written.specs.WrittenFile.{optional_tree}
use Rattle.c_syntax.specs.TypedExpr.{TExprTree, texpr_tree}
use Rattle.c_typing.specs.Stmts.{Condition, Perhaps}
use Rattle.c_typing.specs.World.{World, Outcome, Typed, Refused, goes_on, stops}
use Rattle.c_check_names.specs.Views.{refusal_of}
use Rattle.c_check_names.specs.Worlds.{world_of}
use Rattle.c_check_stmts.proofs.conditions.condition_if_any.Goals as goal

pub returns-in-None : goal.returns-in-None
returns-in-None c =
    let w = world_of c.args.world.now in
    subst (λ e. Perhaps w (λ v e. Condition v c.args.at e) e (Typed None w)) (sym (ap optional_tree c.in-None.is)) refl

pub returns-in-Err : goal.returns-in-Err
returns-in-Err c =
    let w = world_of c.args.world.now in
    IfSome_then (refusal_of c.in-Err.error) c.in-Err.ensures
    (λ r p. subst (λ e. Perhaps w (λ v e. Condition v c.args.at e) e (Refused r)) (sym (ap optional_tree c.in-Some.is ∙ ap (λ e. Some (expr_tree e)) (sym c.deref.ensures)))
    (stops p))

pub returns-in-Ok : goal.returns-in-Ok
returns-in-Ok c =
    let w = world_of c.args.world.now in
    let after = world_of c.condition.new.world in
    subst (λ e. Perhaps w (λ v e. Condition v c.args.at e) e (Typed (Some (texpr_tree c.in-Ok.got)) after))
    (sym (ap optional_tree c.in-Some.is ∙ ap (λ e. Some (expr_tree e)) (sym c.deref.ensures))) (goes_on c.in-Ok.ensures refl)
