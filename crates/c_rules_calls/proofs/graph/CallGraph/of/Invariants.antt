use Rattle.std.proofs.Common.{◌≡◌, map, take}
use Rattle.c_syntax.specs.Program.{tfunction_tree}
use Rattle.c_rules_calls.specs.Graph.{calls_in}
use Rattle.c_rules_calls.proofs.graph.CallGraph.of.Given as goal

abbrev pub invariant-loop-function : goal.invariant-loop-function
invariant-loop-function l = l.functions.items ≡ map calls_in (map tfunction_tree (take l.function-index l.function-items))
