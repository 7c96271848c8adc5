-- A machine that was made for a program, as the run that it goes through.
use Rattle.std.specs.Prelude.{◌≡◌, ℤ, true, false, List}
use Rattle.c_syntax.specs.declared.program.Plan.{Plan}
use Rattle.c_syntax.specs.Program.{TProgramTree}
use Rattle.c_layout.specs.WellTyped.{IsWellTyped}
use Rattle.c_layout.specs.Plans.{IsPlanFor}
use Rattle.c_objects.specs.Statics.{AreEightBits}
use Rattle.c_steps.specs.States.{State}
use Rattle.c_steps.specs.Runs.{IsReached}
use Rattle.c_machine.specs.declared.machine.Machine.{Machine}
use Rattle.c_machine.specs.Functions.{AreFunctions}
use Rattle.c_machine.specs.States.{run_state}

-- the state
abbrev pub state_of : Machine → State
state_of machine = run_state machine.run

-- the machine has wanted memory
abbrev pub HasFailed : Machine → Type 0
HasFailed machine = machine.failed ≡ true

-- the state is one that the run of a plan's main reaches on some inputs, and the machine has the program's functions
pub record IsRunOf (machine : Machine) (p : TProgramTree) : Type 0 where
  pub plan : Plan
  pub inputs : List ℤ
  pub typed : IsWellTyped p
  pub planned : IsPlanFor p plan
  pub bits : AreEightBits p.initial
  pub reached : IsReached p plan.main inputs (state_of machine)
  pub functions : AreFunctions machine.functions p

-- the machine was made for the program and a plan. Of one that has wanted memory no more is said
abbrev pub IsFor : Machine → TProgramTree → Type 0
IsFor machine p = machine.failed ≡ false → IsRunOf machine p
