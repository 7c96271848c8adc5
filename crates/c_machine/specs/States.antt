-- The state of a run, as the definition of the machine has it.
use Rattle.std.specs.Prelude.{◌∷◌, drop}
use Rattle.c_syntax.specs.Program.{TProgramTree}
use Rattle.c_layout.specs.WellTyped.{IsWellTyped}
use Rattle.c_steps.specs.Work.{Item}
use Rattle.c_steps.specs.States.{State, Next, state}
use Rattle.c_steps.specs.Steps.{item_step}
use Rattle.c_steps_laws.specs.Fits.{Fits}
use Rattle.c_machine_values.specs.Contents.{stack_of}
use Rattle.c_machine_work.specs.Works.{work_of}
use Rattle.c_machine.specs.declared.run.Run.{Run}

abbrev pub run_state : Run → State
run_state run = state (work_of run.work) (stack_of run.values) run.values.memory (drop run.read run.inputs)

-- an item stands before the work of a state
abbrev pub before : Item → State → State
before item s = state (item ∷ s.work) s.stack s.memory s.inputs

-- its row
abbrev pub row_of : TProgramTree → Item → State → Next
row_of p item s = item_step p item s.work s.stack s.memory s.inputs

-- the item is the next of a state of a typed run
pub record IsNext (p : TProgramTree) (item : Item) (s : State) : Type 0 where
  pub typed : IsWellTyped p
  pub fits : Fits p (before item s)
