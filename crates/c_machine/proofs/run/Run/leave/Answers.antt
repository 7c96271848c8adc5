use Rattle.std.proofs.Common.{[], ◌∷◌, drop, ap, ◌∙◌, List}
use Rattle.c_steps.specs.States.{Held}
use Rattle.c_steps.specs.Steps.{item_step}
use Rattle.c_steps.specs.Work.{Leave}
use Rattle.c_machine_work.specs.declared.stack.Held as code
use Rattle.c_machine_work.specs.Views.{held_of, item_of, on_top}
use Rattle.c_machine_work.specs.Works.{work_of}
use Rattle.c_machine.specs.declared.jumps.Way.TheVariants as ways
use Rattle.c_machine.specs.Landing.{memory_at}
use Rattle.c_machine.proofs.Landing.{landed_on, left_there, return_lands}
use Rattle.c_machine.proofs.run.Run.leave.Goals as goal

pub drop_to-requires-clause-lands : goal.drop_to-requires-clause-lands
drop_to-requires-clause-lands c = return_lands (work_of c.args.self.now.work) c.requires.lands.0

pub returns : goal.returns
returns c = λ p.
    let d = c.drop_to.ensures in
    let new = c.drop_to.new.self in
    let w = work_of c.args.self.now.work in
    let m = c.args.self.now.values.memory in
    let i = drop c.args.self.now.read c.args.self.now.inputs in
    let v = held_of c.take_held-given.result in
    let below = on_top c.take_held-given.new.stack [] in
    ap (λ (x : List Held). item_step p Leave w x m i) c.take_held-given.ensures
    ∙ left_there v below i w m (item_of c.drop_to.result) (work_of new.work) c.requires.lands.0 d.work
    ∙ landed_on (work_of new.work) (v ∷ below) (on_top c.put.new.self []) (memory_at ways.Return w m) new.values.memory c.args.self.now.inputs new.inputs
    c.args.self.now.read new.read (c.in_ok-put.ensures ∙ ap (λ (x : List code.Held). v ∷ on_top x []) d.stack) d.memory d.inputs
