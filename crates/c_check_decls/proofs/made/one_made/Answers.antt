use Rattle.std.proofs.Common.{[], ◌∷◌, ◌++◌, ap, ◌∙◌}
use Rattle.c_syntax.specs.TypedStmt.{TStmtTrees}
use Rattle.c_typing.specs.Decls.{Made}
use Rattle.c_check_decls.proofs.Behind.{tree_of, one_from}
use Rattle.c_check_decls.proofs.made.one_made.Goals as goal

pub returns : goal.returns
returns c =
    let objects = c.args.objects.items in
    ap (tree_of objects) (c.in_ok-push.ensures.items ∙ ap (λ list. list ++ c.args.item ∷ []) c.new-items.ensures.items)
    ∙ ap (λ (all : TStmtTrees). let made : Made = record { objects = objects; items = all } in made) (one_from c.args.item)
