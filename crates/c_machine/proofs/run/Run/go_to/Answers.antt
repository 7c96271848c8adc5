use Rattle.std.proofs.Common.{◌∷◌, drop, sym, ap, ◌∙◌}
use Rattle.c_machine_trees.specs.Statements.{stmts_tree}
use Rattle.c_machine_trees.specs.declared.statement.SharedStmts.{SharedStmts}
use Rattle.c_steps.specs.Marks.{AtLabel, behind, does}
use Rattle.c_steps.specs.States.{goes}
use Rattle.c_steps.specs.Work.{Close}
use Rattle.c_machine_values.specs.Contents.{stack_of}
use Rattle.c_machine_work.specs.Views.{item_of}
use Rattle.c_machine_work.specs.Works.{work_of}
use Rattle.c_machine.specs.declared.jumps.Way.TheVariants as ways
use Rattle.c_machine.specs.Landing.{memory_at}
use Rattle.c_machine.proofs.Landing.{goto_found, goto_lands, jumped_there, landed, no_block, on_ok}
use Rattle.c_machine.proofs.run.Run.go_to.Goals as goal

pub drop_to-requires-clause-lands : goal.drop_to-requires-clause-lands
drop_to-requires-clause-lands c = goto_lands c.args.label (work_of c.args.self.now.work) c.requires.lands

pub unreachable-requires : goal.unreachable-requires
unreachable-requires c =
    no_block c.args.label c.drop_to.result
    (goto_found c.args.label (work_of c.args.self.now.work) (item_of c.drop_to.result) (work_of c.drop_to.new.self.work) c.requires.lands c.drop_to.ensures.work)
    c.in_default.not-Close

pub returns : goal.returns
returns c =
    let d = c.in-Close.ensures in
    let new = c.drop_to.new.self in
    let s = stack_of c.args.self.now.values in
    let m = c.args.self.now.values.memory in
    let i = drop c.args.self.now.read c.args.self.now.inputs in
    let w = work_of c.args.self.now.work in
    let xs = c.in-Close.objects.value in
    let items = stmts_tree c.in-Close.items.value in
    let label = AtLabel c.args.label in
    let blocks = λ (x : SharedStmts) (y : SharedStmts). does (behind label (stmts_tree x)) (Close xs (stmts_tree y) ∷ work_of new.work) in
    let back = ap (λ v. does (behind label (stmts_tree c.deref.result.now)) v) c.in_ok-put-in-Close.ensures
    ∙ ap (λ (x : SharedStmts). blocks x c.in_ok-again-in-Close.again.value) c.deref.ensures
    ∙ ap (λ (y : SharedStmts). blocks c.in-Close.items.value y) c.in_ok-again-in-Close.ensures.cases in
    on_ok c.put_behind.result
    (λ put. jumped_there c.args.label s i xs items (work_of new.work) w m c.requires.lands d.work
    ∙ ap (λ v. goes v s (memory_at (ways.Goto c.args.label) w m) i) (sym (put ∙ back))
    ∙ landed (work_of c.put_behind.new.work) c.args.self.now.values.stack new.values.stack (memory_at (ways.Goto c.args.label) w m) new.values.memory
    c.args.self.now.inputs new.inputs c.args.self.now.read new.read d.stack d.memory d.inputs)
    c.put_behind.ensures
