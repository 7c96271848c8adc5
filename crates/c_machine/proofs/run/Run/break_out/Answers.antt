use Rattle.std.proofs.Common.{◌∙◌}
use Rattle.c_machine_values.specs.Contents.{stack_of}
use Rattle.c_machine_work.specs.Views.{item_of}
use Rattle.c_machine_work.specs.Works.{work_of}
use Rattle.c_machine.proofs.Landing.{break_lands, broken_there, landed}
use Rattle.c_machine.proofs.run.Run.break_out.Goals as goal

pub drop_to-requires-clause-lands : goal.drop_to-requires-clause-lands
drop_to-requires-clause-lands c = break_lands (work_of c.args.self.now.work) c.requires.lands

pub returns : goal.returns
returns c =
    let d = c.drop_to.ensures in
    broken_there (stack_of c.args.self.now.values) _ (work_of c.args.self.now.work) c.args.self.now.values.memory (item_of c.drop_to.result)
    (work_of c.drop_to.new.self.work) c.requires.lands d.work
    ∙ landed _ c.args.self.now.values.stack c.drop_to.new.self.values.stack _ _ c.args.self.now.inputs _ c.args.self.now.read _ d.stack d.memory d.inputs
