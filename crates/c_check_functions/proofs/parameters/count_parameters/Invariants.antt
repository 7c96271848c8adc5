use Rattle.std.proofs.Common.{◌≡◌, ◌+◌, length, map}
use Rattle.c_typing.specs.Decls.{numbers_from}
use Rattle.c_typing.specs.File.{with_counted}
use Rattle.c_check_declarators.specs.Views.{parameter_tree}
use Rattle.c_check_names.specs.Worlds.{world_of}
use Rattle.c_check_functions.proofs.Counting.{left_from}
use Rattle.c_check_functions.proofs.parameters.count_parameters.Given as goal

abbrev pub invariant-each : goal.invariant-each
invariant-each l = record {
  numbers : l.numbers.items ≡ numbers_from (length (world_of l.fn.world).objects) l.param-index;
  grown : length (world_of l.world).objects ≡ length (world_of l.fn.world).objects + l.param-index;
  left : left_from (world_of l.world) l.params l.param-index ≡ with_counted (world_of l.fn.world) (map parameter_tree l.params);
}
