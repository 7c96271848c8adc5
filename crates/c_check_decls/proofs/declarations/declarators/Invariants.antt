use Rattle.std.proofs.Common.{drop}
use Rattle.std.specs.Prelude.{map}
use Rattle.c_syntax_written.specs.WrittenDecl.{initdeclarator_tree}
use Rattle.c_typing.specs.Decls.{Made, nothing_made, TypesInitDeclarators}
use Rattle.c_typing.specs.World.{Outcome}
use Rattle.c_check_jumps.specs.ContextViews.{context_tree}
use Rattle.c_check_decls.specs.MadeViews.{made_tree}
use Rattle.c_check_names.specs.Trees.{form_tree}
use Rattle.c_check_names.specs.Worlds.{world_of}
use Rattle.c_check_decls.proofs.declarations.declarators.Given as goal

-- what is left decides for all
abbrev pub invariant-each : goal.invariant-each
invariant-each l =
    (o : Outcome Made)
    → TypesInitDeclarators (world_of l.world) (context_tree l.around) l.first l.storage (form_tree l.base) (made_tree l.done)
    (map initdeclarator_tree (drop l.item-index l.items)) o
    → TypesInitDeclarators (world_of l.fn.world) (context_tree l.fn.around) l.fn.first l.fn.storage (form_tree l.fn.base) nothing_made
    (map initdeclarator_tree l.fn.items) o
