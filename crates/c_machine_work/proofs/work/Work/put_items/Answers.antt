use Rattle.std.proofs.Common.{◌≡◌, ◌+◌, ◌-◌, ◌∷◌, drop, true, false, sym, ap, ◌∙◌, arith}
use Rattle.c_machine_trees.specs.declared.statement.SharedStmt.{SharedStmt}
use Rattle.c_machine_trees.specs.Statements.{stmt_tree, stmts_from}
use Rattle.c_steps.specs.Marks.{does, does_nothing}
use Rattle.c_steps.specs.Work.{Do}
use Rattle.c_machine_work.specs.Works.{work_of}
use Rattle.c_machine_work.proofs.Marked.{item_done, mark_done, nothing_done}
use Rattle.c_machine_work.proofs.work.Work.put_items.Goals as goal

pub loop-rest-init : goal.loop-rest-init
loop-rest-init c = (omega arith, sym (nothing_done c.args.items.now (work_of c.args.self.now)))

pub loop-rest-preserved-in_ok-put : goal.loop-rest-preserved-in_ok-put
loop-rest-preserved-in_ok-put c =
    let items = c.args.items.now in
    let k = c.loop-rest.rest - 1 in
    let next : k + 1 ≡ c.loop-rest.rest = omega arith in
    let item = c.index-items-rest.result in
    let something : does_nothing (stmt_tree item.value) ≡ false =
    ap (λ (s : SharedStmt). does_nothing (stmt_tree s)) (sym c.deref.ensures) ∙ sym c.does_nothing.ensures ∙ c.if-not-does_nothing.true in (
      omega arith,
      c.in_ok-put.ensures
          ∙ ap (λ (s : SharedStmt). Do (stmt_tree s) ∷ work_of c.loop-rest.self) c.in_ok-clone.ensures.cases
          ∙ ap (λ work. Do (stmt_tree item.value) ∷ work) c.loop-rest.invariant.1
          ∙ ap (λ n. Do (stmt_tree item.value) ∷ does (stmts_from (drop n items)) (work_of c.args.self.now)) (sym next)
          ∙ item_done items k item (work_of c.args.self.now) (omega arith) c.index-items-rest.is something,
    )

pub loop-rest-preserved : goal.loop-rest-preserved
loop-rest-preserved c =
    let items = c.args.items.now in
    let k = c.loop-rest.rest - 1 in
    let next : k + 1 ≡ c.loop-rest.rest = omega arith in
    let item = c.index-items-rest.result in
    let nothing : does_nothing (stmt_tree item.value) ≡ true =
    ap (λ (s : SharedStmt). does_nothing (stmt_tree s)) (sym c.deref.ensures) ∙ sym c.does_nothing.ensures ∙ c.if-not-does_nothing.false in (
      omega arith,
      c.loop-rest.invariant.1
          ∙ ap (λ n. does (stmts_from (drop n items)) (work_of c.args.self.now)) (sym next)
          ∙ mark_done items k item (work_of c.args.self.now) (omega arith) c.index-items-rest.is nothing,
    )
