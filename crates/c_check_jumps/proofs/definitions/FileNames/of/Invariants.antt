use Rattle.std.proofs.Common.{◌≡◌, ◌++◌, drop, map}
use Rattle.std.specs.Prelude.{flat_map}
use Rattle.c_syntax_written.specs.WrittenFile.{outer_tree}
use Rattle.c_typing.specs.Context.{objects_defined_by, functions_defined_by}
use Rattle.c_check_jumps.proofs.definitions.FileNames.of.Given as goal

abbrev pub invariant-each : goal.invariant-each
invariant-each l = (l.objects ++ flat_map objects_defined_by (map outer_tree (drop l.outer-index l.outers)) ≡ flat_map objects_defined_by (map outer_tree l.fn.file.outers))
    × (l.functions ++ flat_map functions_defined_by (map outer_tree (drop l.outer-index l.outers)) ≡ flat_map functions_defined_by (map outer_tree l.fn.file.outers))
