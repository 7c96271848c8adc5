use Rattle.std.proofs.Common.{◌≡◌, map, take}
use Rattle.c_syntax.specs.Program.{structdef_tree}
use Rattle.c_layout.specs.Layout.{strictest, spaces_by, in_table}
use Rattle.c_typing.specs.Typing.{members_made}
use Rattle.c_check_declarators.specs.PartViews.{made_tree}
use Rattle.c_check_declarators.proofs.layouts.strictest.Given as goal

abbrev pub invariant-loop-made : goal.invariant-loop-made
invariant-loop-made l = l.align ≡ strictest (spaces_by (in_table (map structdef_tree l.structs)) (members_made (map made_tree (take l.made-index l.members))))
