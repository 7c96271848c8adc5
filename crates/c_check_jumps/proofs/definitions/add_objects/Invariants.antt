use Rattle.std.proofs.Common.{◌≡◌, ◌++◌, drop, map}
use Rattle.std.specs.Prelude.{flat_map}
use Rattle.c_syntax_written.specs.Written.{specs_tree}
use Rattle.c_syntax_written.specs.WrittenDecl.{initdeclarator_tree}
use Rattle.c_typing.specs.Context.{objects_by}
use Rattle.c_check_jumps.proofs.definitions.add_objects.Given as goal

abbrev pub invariant-each : goal.invariant-each
invariant-each l =
    let objects = objects_by (specs_tree l.fn.decl.specs) in
    l.objects ++ flat_map objects (map initdeclarator_tree (drop l.item-index l.items)) ≡ l.fn.objects ++ flat_map objects (map initdeclarator_tree l.fn.decl.inits)
