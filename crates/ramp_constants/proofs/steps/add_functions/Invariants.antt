use Rattle.std.proofs.Common.{◌≡◌, ◌++◌, map, take}
use Rattle.std.specs.List.{flat_map}
use Rattle.c_syntax.specs.Program.{tfunction_tree}
use Rattle.ramp_constants.specs.Constants.{function_constants}
use Rattle.ramp_constants.proofs.steps.add_functions.Given as goal

abbrev pub invariant-loop-function : goal.invariant-loop-function
invariant-loop-function l = l.constants.items ≡ l.initial.constants.items ++ flat_map function_constants (map tfunction_tree (take l.function-index l.function-items))
