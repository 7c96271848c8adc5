use Rattle.std.proofs.Common.{◌∷◌, drop, map, sym, ap, ◌∙◌}
use Rattle.c_syntax.specs.TypedStmt.{none}
use Rattle.c_syntax.specs.Types.{object_tree}
use Rattle.c_objects.specs.Opening.{open_all}
use Rattle.c_machine_trees.specs.declared.statement.SharedStmt.{SharedStmt}
use Rattle.c_machine_trees.specs.declared.statement.SharedStmts.{SharedStmts}
use Rattle.c_machine_trees.specs.Statements.{stmt_tree, stmts_tree}
use Rattle.c_machine_trees.proofs.SharedStmtTrees.{stmt_for}
use Rattle.c_steps.specs.Marks.{does}
use Rattle.c_steps.specs.States.{Goes, goes}
use Rattle.c_steps.specs.Statements.{do_step}
use Rattle.c_steps.specs.Work.{Begin, Close}
use Rattle.c_machine_values.specs.Contents.{stack_of}
use Rattle.c_machine_work.specs.Views.{loop_of}
use Rattle.c_machine_work.specs.Works.{work_of}
use Rattle.c_machine.proofs.Landing.{on_ok}
use Rattle.c_machine.proofs.run.Run.start_loop.Goals as goal

pub returns-in_ok-parts-in-For : goal.returns-in_ok-parts-in-For
returns-in_ok-parts-in-For c =
    let objects = map object_tree c.args.objects.now in
    let w = work_of c.args.self.now.work in
    let s = stack_of c.args.self.now.values in
    let m = c.args.self.now.values.memory in
    let xs = c.in-For.opened.value in
    let head = c.in-For.head.value in
    let parts = c.in_ok-parts-in-For.parts.value in
    let i = drop c.args.self.now.read c.args.self.now.inputs in
    on_ok c.open_loop.result
    (λ opened. ap (λ (x : SharedStmt). do_step objects (stmt_tree x) w s m i) c.in-For.is
    ∙ ap (λ t. do_step objects t w s m i) (stmt_for c.in-For.pos c.in-For.opened c.in-For.head c.in-For.condition c.in-For.step c.in-For.body)
    ∙ ap (λ l. goes (does (stmts_tree head) (Begin 0 l ∷ Close xs none ∷ w)) s (open_all objects m xs) i) (sym c.in_ok-parts-in-For.ensures)
    ∙ ap (λ (h : SharedStmts). goes (does (stmts_tree h) (Begin 0 (loop_of parts) ∷ Close xs none ∷ w)) s (open_all objects m xs) i) (sym c.deref.ensures)
    ∙ ap Goes (sym opened))
    c.open_loop.ensures
