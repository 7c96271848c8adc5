use Rattle.std.proofs.Common.{◌≡◌, map, take}
use Rattle.c_syntax.specs.Program.{tfunction_tree}
use Rattle.report.proofs.function_names.names_of.Given as goal

abbrev pub invariant-loop-function : goal.invariant-loop-function
invariant-loop-function l = l.names.items ≡ map (λ function. function.name) (map tfunction_tree (take l.function-index l.function-items))
