-- What stands round a part of a file, as typing speaks of it.
use Rattle.std.specs.Prelude.{ℕ, List, [], Option, Some, None}
use Rattle.std.proofs.Common.{Bor}
use Rattle.c_syntax.specs.Types.{CTypeTree, Void, ctype_tree}
use Rattle.c_typing.specs.Context as contexts
use Rattle.c_check_jumps.specs.declared.around.Context.{Context}
use Rattle.c_check_jumps.specs.declared.around.Function.{Function}

abbrev pub labels_in : Option (Bor Function) → List (List ℕ)
labels_in None = []
labels_in (Some function) = function.now.labels

abbrev pub result_in : Option (Bor Function) → CTypeTree
result_in None = Void
result_in (Some function) = ctype_tree function.now.result

abbrev pub context_tree : Context → contexts.Context
context_tree around = record {
  objects = around.file.now.objects;
  functions = around.file.now.functions;
  labels = labels_in around.function;
  result = result_in around.function;
  in_block = around.in_block;
  breaks = around.breaks;
  continues = around.continues;
  switch = around.switch;
}
