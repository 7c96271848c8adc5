use Rattle.std.proofs.Common.{◌≡◌, map, take}
use Rattle.c_syntax.specs.Program.{tfunction_tree}
use Rattle.c_machine.specs.Functions.{bodied, callee_of}
use Rattle.c_machine.proofs.functions.Functions.of.Given as goal

abbrev pub invariant-loop-function : goal.invariant-loop-function
invariant-loop-function l = map callee_of l.items.items ≡ map bodied (map tfunction_tree (take l.function-index l.function-items))
