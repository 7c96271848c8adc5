-- What a step of the code says of the machine's.
use Rattle.std.specs.Prelude.{◌≡◌}
use Rattle.c_syntax.specs.Program.{TProgramTree}
use Rattle.c_steps.specs.Work.{Item}
use Rattle.c_steps.specs.States.{State, Next, Goes, Ended, Waiting, Stopped}
use Rattle.c_machine_values.specs.Rows.{IsWrongAs}
use Rattle.c_machine.specs.declared.step.Step.{Step}
use Rattle.c_machine.specs.declared.step.Step.TheVariants as steps
use Rattle.c_machine.specs.States.{row_of}

-- what is next is this, and a step that does not go on leaves the state. Out of memory is no step
abbrev pub Comes : Next → State → State → Step → Type 0
Comes next old new steps.Went = next ≡ Goes new
Comes next old new (steps.Ended n) = (next ≡ Ended n) × (new ≡ old)
Comes next old new steps.Waiting = (next ≡ Waiting) × (new ≡ old)
Comes next old new steps.Stopped = (next ≡ Stopped) × (new ≡ old)
Comes next old new (steps.Wrong at kind) = IsWrongAs at kind next × (new ≡ old)
Comes next old new steps.NoMemory = ⊥

-- the same, where memory may be wanted
abbrev pub Answers : Next → State → State → Step → Type 0
Answers next old new steps.NoMemory = Unit {0}
Answers next old new step = Comes next old new step

-- the row of an item that was taken off
abbrev pub IsRow : TProgramTree → Item → State → State → Step → Type 0
IsRow p item old new step = Comes (row_of p item old) old new step
