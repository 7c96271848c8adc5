use Rattle.std.proofs.Common.{ap, sym, ◌∙◌, length, map}
use Rattle.std.proofs.lemmas.List.{length-map}
use Rattle.c_syntax.specs.Types.{ctype_tree, object_tree}
use Rattle.c_syntax.specs.TypedExpr.{Var}
use Rattle.c_syntax.proofs.TypedExprTrees.{tlvalue_var}
use Rattle.c_check_exprs.proofs.words.parameter_place.Goals as goal

pub returns : goal.returns
returns c =
    let objects = c.args.world.now.objects.items in
    tlvalue_var c.args.pos _ c.in_ok-copy.field-0 c.args.is_const
    ∙ ap (λ n. Var c.args.pos n (ctype_tree c.in_ok-copy.field-0) c.args.is_const) (ap length c.as_slice.ensures.value ∙ sym (length-map objects object_tree))
    ∙ ap (λ ty. Var c.args.pos (length (map object_tree objects)) ty c.args.is_const) c.in_ok-copy.ensures
