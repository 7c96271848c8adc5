use Rattle.std.proofs.Common.{sym, ap, ◌∙◌, subst}
use Rattle.std.specs.Prelude.{Some}
use Rattle.c_syntax_written.specs.Written.{ExprTree, expr_tree}
use Rattle.c_syntax_written.specs.WrittenFile.{optional_tree}
use Rattle.c_syntax.specs.TypedStmt.{tstmt_tree}
use Rattle.c_typing.specs.Stmts.{one}
use Rattle.c_check_jumps.specs.ContextViews.{context_tree}
use Rattle.c_check_names.specs.Views.{Answers}
use Rattle.c_check_names.specs.Worlds.{world_of}
use Rattle.c_check_stmts.specs.PartForms.{Returns}
use Rattle.c_check_stmts.proofs.returns.return_of.Goals as goal

pub returns-in-None : goal.returns-in-None
returns-in-None c =
    let w = world_of c.args.world.now in
    subst (λ e. Answers (Returns w c.args.at (context_tree c.args.around).result e) (λ s. one (tstmt_tree s)) w c.bare_return.result)
    (sym (ap optional_tree c.in-None.is)) c.bare_return.ensures

pub returns-in-Some : goal.returns-in-Some
returns-in-Some c =
    let w = world_of c.args.world.now in
    subst (λ e. Answers (Returns w c.args.at (context_tree c.args.around).result e) (λ s. one (tstmt_tree s)) (world_of c.value_return.new.world) c.value_return.result)
    (sym (ap optional_tree c.in-Some.is ∙ ap (λ e. Some (expr_tree e)) (sym c.deref.ensures))) c.value_return.ensures
