use Rattle.std.proofs.Common.{drop, sym, ap, ◌∙◌}
use Rattle.c_machine_values.specs.Contents.{stack_of}
use Rattle.c_steps.specs.States.{goes}
use Rattle.c_machine_work.specs.Views.{item_of}
use Rattle.c_machine_work.specs.Works.{work_of}
use Rattle.c_machine.specs.declared.jumps.Way.TheVariants as ways
use Rattle.c_machine.specs.Landing.{memory_at}
use Rattle.c_machine.proofs.Landing.{continue_lands, continued_there, landed, on_ok}
use Rattle.c_machine.proofs.run.Run.go_on.Goals as goal

pub drop_to-end-requires-clause-lands : goal.drop_to-end-requires-clause-lands
drop_to-end-requires-clause-lands c = continue_lands (work_of c.args.self.now.work) c.requires.lands

pub returns : goal.returns
returns c =
    let d = c.drop_to-end.ensures in
    let new = c.drop_to-end.new.self in
    let s = stack_of c.args.self.now.values in
    let m = c.args.self.now.values.memory in
    let i = drop c.args.self.now.read c.args.self.now.inputs in
    let w = work_of c.args.self.now.work in
    on_ok c.put.result
    (λ put. continued_there s i w m (item_of c.drop_to-end.result) (work_of new.work) c.requires.lands d.work
    ∙ ap (λ v. goes v s (memory_at ways.Continue w m) i) (sym put)
    ∙ landed (work_of c.put.new.self) c.args.self.now.values.stack new.values.stack (memory_at ways.Continue w m) new.values.memory c.args.self.now.inputs
    new.inputs c.args.self.now.read new.read d.stack d.memory d.inputs)
    c.put.ensures
