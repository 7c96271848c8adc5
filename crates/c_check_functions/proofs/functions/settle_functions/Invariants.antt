use Rattle.std.proofs.Common.{◌≡◌, map}
use Rattle.c_syntax.specs.Program.{tfunction_tree}
use Rattle.c_syntax.specs.Types.{object_tree}
use Rattle.c_typing.specs.Settled.{settled_function}
use Rattle.c_check_functions.proofs.SettledLists.{settled_to}
use Rattle.c_check_functions.proofs.functions.settle_functions.Given as goal

abbrev pub invariant-loop-function : goal.invariant-loop-function
invariant-loop-function l = map tfunction_tree l.functions ≡ settled_to (settled_function (map object_tree l.objects)) l.function-index (map tfunction_tree l.initial.functions)
