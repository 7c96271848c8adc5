use Rattle.std.proofs.Common.{[], ap, ◌∙◌}
use Rattle.c_syntax.specs.TypedStmt.{TStmtTrees}
use Rattle.c_typing.specs.Decls.{Made}
use Rattle.c_check_decls.proofs.Behind.{tree_of, nothing_from}
use Rattle.c_check_decls.proofs.made.Made.nothing.Goals as goal

pub returns : goal.returns
returns c =
    ap (λ objects. tree_of objects c.new-2.result.items) c.new.ensures.items ∙ ap (tree_of []) c.new-2.ensures.items
    ∙ ap (λ (all : TStmtTrees). let made : Made = record { objects = []; items = all } in made) nothing_from
