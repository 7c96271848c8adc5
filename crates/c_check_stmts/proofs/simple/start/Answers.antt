use Rattle.std.proofs.Common.{◌≡◌, sym, ap, ◌∙◌, subst}
use Rattle.c_syntax_written.specs.Written.{expr_tree}
use Rattle.c_syntax_written.specs.WrittenDecl.{decl_tree}
use Rattle.c_syntax_written.specs.WrittenFile as files
use Rattle.c_syntax_written.specs.WrittenFile.{forstart_tree}
use Rattle.c_syntax_written.proofs.WrittenFileTrees.{forstart_nothing, forstart_value, forstart_declares}
use Rattle.c_typing.specs.Decls.{Made}
use Rattle.c_typing.specs.Stmts.{TypesStart}
use Rattle.c_typing.specs.World.{Typed}
use Rattle.c_check_jumps.specs.ContextViews.{context_tree}
use Rattle.c_check_names.specs.Views.{Answers}
use Rattle.c_check_decls.specs.MadeViews.{made_tree}
use Rattle.c_check_names.specs.Worlds.{world_of}
use Rattle.c_check_stmts.proofs.simple.start.Goals as goal

pub returns-in-Nothing : goal.returns-in-Nothing
returns-in-Nothing c =
    let w = world_of c.args.world.now in
    subst (λ s. TypesStart w (context_tree c.args.around) s (Typed (made_tree c.nothing.result) w)) (sym (ap forstart_tree c.in-Nothing.is ∙ forstart_nothing))
    (ap (λ (made : Made). Typed made w) c.nothing.ensures)

pub returns-in-Value : goal.returns-in-Value
returns-in-Value c =
    let same : forstart_tree c.args.from.now ≡ files.Value (expr_tree c.deref.result.now) = cc (ap forstart_tree c.in-Value.is ∙ forstart_value c.in-Value.e, c.deref.ensures) in
    subst (λ s. Answers (TypesStart (world_of c.args.world.now) (context_tree c.args.around) s) made_tree (world_of c.value_start.new.world) c.value_start.result)
    (sym same) c.value_start.ensures

pub returns-in-Declares : goal.returns-in-Declares
returns-in-Declares c =
    let same : forstart_tree c.args.from.now ≡ files.Declares (decl_tree c.deref-in-Declares.result.now)
    = cc (ap forstart_tree c.in-Declares.is ∙ forstart_declares c.in-Declares.decl, c.deref-in-Declares.ensures) in
    subst (λ s. Answers (TypesStart (world_of c.args.world.now) (context_tree c.args.around) s) made_tree (world_of c.declaration.new.world) c.declaration.result)
    (sym same) c.declaration.ensures
