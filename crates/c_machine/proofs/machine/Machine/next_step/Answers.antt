use Rattle.std.proofs.Common.{List, drop, ap, ◌∙◌, subst}
use Rattle.c_syntax.specs.Program.{tprogram_tree}
use Rattle.c_steps.specs.States.{state}
use Rattle.c_steps.specs.Steps.{work_step}
use Rattle.c_steps.specs.Work as steps
use Rattle.c_steps_laws.specs.Fits.{Fits}
use Rattle.c_steps_laws.proofs.Shaped.{work_left}
use Rattle.c_machine_values.specs.Contents.{stack_of}
use Rattle.c_machine_work.specs.Views.{item_of}
use Rattle.c_machine_work.specs.Works.{work_of}
use Rattle.c_machine.specs.Made.{state_of}
use Rattle.c_machine.specs.States.{run_state}
use Rattle.c_machine.specs.Steps.{IsRow}
use Rattle.c_machine.proofs.Reached.{reached_fits, reached_next}
use Rattle.c_machine.proofs.machine.Machine.next_step.Goals as goal

pub take_next-item-requires : goal.take_next-item-requires
take_next-item-requires c = λ empty.
    let h = c.requires in
    let run = c.args.self.now.run in
    let p = tprogram_tree c.args.program.now in
    work_left (subst (λ (w : List steps.Item). Fits p (state w (stack_of run.values) run.values.memory (drop run.read run.inputs))) empty
    (reached_fits p h.plan h.typed h.planned h.inputs (state_of c.args.self.now) h.bits h.reached))

pub row-requires-clause-next : goal.row-requires-clause-next
row-requires-clause-next c =
    let h = c.requires in
    let run = c.args.self.now.run in
    let p = tprogram_tree c.args.program.now in
    record {
      typed = h.typed;
      fits = subst (λ (w : List steps.Item). Fits p (state w (stack_of run.values) run.values.memory (drop run.read run.inputs))) c.take_next-item.ensures
          (reached_fits p h.plan h.typed h.planned h.inputs (state_of c.args.self.now) h.bits h.reached);
    }

pub returns-in-Went-clause-made : goal.returns-in-Went-clause-made
returns-in-Went-clause-made c =
    let h = c.requires in
    let run = c.args.self.now.run in
    let p = tprogram_tree c.args.program.now in
    let rest = state (work_of c.take_next-item.new.work) (stack_of run.values) run.values.memory (drop run.read run.inputs) in
    let went = subst (λ s. IsRow p (item_of c.take_next-item.result) rest (run_state c.row.new.self) s) c.in-Went.is c.in_ok-step.ensures in
    record {
      plan = h.plan;
      inputs = h.inputs;
      typed = h.typed;
      planned = h.planned;
      bits = h.bits;
      reached = reached_next p h.plan.main h.inputs (state_of c.args.self.now) (run_state c.row.new.self) h.reached
          (ap (λ w. work_step p w (stack_of run.values) run.values.memory (drop run.read run.inputs)) c.take_next-item.ensures ∙ went);
      functions = h.functions;
    }
