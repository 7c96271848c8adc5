use Rattle.std.proofs.Common.{◌≡◌, ◌++◌, map, take}
use Rattle.std.specs.List.{flat_map}
use Rattle.c_syntax.specs.Program.{tfunction_tree}
use Rattle.c_rules_effects.specs.Taken.{function_taken}
use Rattle.c_rules_effects.proofs.table.add_functions.Given as goal

abbrev pub invariant-loop-function : goal.invariant-loop-function
invariant-loop-function l = l.taken.items ≡ l.initial.taken.items ++ flat_map function_taken (map tfunction_tree (take l.function-index l.function-items))
