use Rattle.std.proofs.Common.{◌≡◌, length}
use Rattle.c_steps_laws.specs.Needs.{EndsThere}
use Rattle.c_machine_work.specs.Works.{work_of}
use Rattle.c_machine.specs.Landing.{memory_at, rest_at}
use Rattle.c_machine.proofs.run.Run.drop_to.Given as goal

abbrev pub invariant-loop-item : goal.invariant-loop-item
invariant-loop-item l = record {
  rest : rest_at l.way (work_of l.self.work) ≡ rest_at l.way (work_of l.initial.self.work);
  memory : memory_at l.way (work_of l.self.work) l.self.values.memory ≡ memory_at l.way (work_of l.initial.self.work) l.initial.self.values.memory;
  there : EndsThere l.self.values.memory (work_of l.self.work);
  stack : l.self.values.stack ≡ l.initial.self.values.stack;
  inputs : (l.self.inputs ≡ l.initial.self.inputs) × (l.self.read ≡ l.initial.self.read);
}

abbrev pub decreases-loop-item : goal.decreases-loop-item
decreases-loop-item l = length (work_of l.self.work)
