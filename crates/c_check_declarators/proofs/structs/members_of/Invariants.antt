use Rattle.std.proofs.Common.{◌≡◌, ◌++◌, map, vec_len}
use Rattle.std.specs.Prelude.{reverse}
use Rattle.c_syntax.specs.Program.{member_tree}
use Rattle.c_typing.specs.Typing.{members_made}
use Rattle.c_check_declarators.specs.PartViews.{made_tree}
use Rattle.c_check_declarators.proofs.structs.members_of.Given as goal

abbrev pub invariant-each : goal.invariant-each
invariant-each l = map member_tree l.members.items ++ members_made (map made_tree (reverse l.left.items)) ≡ members_made (map made_tree l.fn.made.items)

abbrev pub decreases-each : goal.decreases-each
decreases-each l = vec_len l.left
