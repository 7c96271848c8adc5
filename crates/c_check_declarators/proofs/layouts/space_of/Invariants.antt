use Rattle.std.proofs.Common.{◌≡◌, map}
use Rattle.c_syntax.specs.Types.{ctype_tree}
use Rattle.c_syntax.specs.Program.{structdef_tree}
use Rattle.c_layout.specs.Layout.{space_by, in_table, array_space}
use Rattle.c_check_declarators.proofs.layouts.space_of.Given as goal

abbrev pub invariant-inward : goal.invariant-inward
invariant-inward l = space_by (in_table (map structdef_tree l.structs)) (ctype_tree l.ty) ≡ array_space l.count (space_by (in_table (map structdef_tree l.structs)) (ctype_tree l.part))
