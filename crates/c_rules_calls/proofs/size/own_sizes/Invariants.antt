use Rattle.std.proofs.Common.{◌≡◌, map, take}
use Rattle.c_syntax.specs.Program.{tfunction_tree}
use Rattle.c_rules_calls.specs.Inlined.{ended, function_size}
use Rattle.c_rules_calls.proofs.size.own_sizes.Given as goal

abbrev pub invariant-loop-function : goal.invariant-loop-function
invariant-loop-function l = l.sizes.items ≡ map ended (map function_size (map tfunction_tree (take l.function-index l.function-items)))
