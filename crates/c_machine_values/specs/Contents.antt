-- What stands on the stack, the last that was put on it first.
use Rattle.std.specs.Prelude.{List, []}
use Rattle.c_steps.specs.States.{Held}
use Rattle.c_machine_work.specs.Views.{on_top}
use Rattle.c_machine_values.specs.declared.values.Values.{Values}

abbrev pub stack_of : Values → List Held
stack_of values = on_top values.stack []
