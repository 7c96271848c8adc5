use Rattle.std.proofs.Common.{◌≡◌, length, map, take}
use Rattle.c_typing.specs.Decls.{numbers_from, with_parameters}
use Rattle.c_check_declarators.specs.Views.{parameter_tree}
use Rattle.c_check_names.specs.Worlds.{world_of}
use Rattle.c_check_decls.proofs.parameters.add_parameters.Given as goal

abbrev pub invariant-each : goal.invariant-each
invariant-each l =
    (l.numbers.items ≡ numbers_from (length (world_of l.fn.world).objects) l.param-index)
    × (world_of l.world ≡ with_parameters (world_of l.fn.world) (map parameter_tree (take l.param-index l.params)))
