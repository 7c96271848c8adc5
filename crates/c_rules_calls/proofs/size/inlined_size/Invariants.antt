use Rattle.c_syntax.specs.Program.{tprogram_tree}
use Rattle.c_rules_calls.specs.Inlined.{sizes_of}
use Rattle.c_rules_calls.proofs.Inlining.{AreSo}
use Rattle.c_rules_calls.proofs.size.inlined_size.Given as goal

abbrev pub invariant-loop-function : goal.invariant-loop-function
invariant-loop-function l = AreSo l.graph (sizes_of (tprogram_tree l.program)) l.function-items l.function-index l.sizes.items
