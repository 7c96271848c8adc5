use Rattle.std.proofs.Common.{◌≡◌, length, map}
use Rattle.c_syntax.specs.Types.{ctype_tree}
use Rattle.c_typing.specs.SameTypes.{are_same}
use Rattle.c_check_decls.proofs.agreeing.are_same.Given as goal

abbrev pub invariant-each : goal.invariant-each
invariant-each l = are_same (map ctype_tree l.left) (map ctype_tree l.right) ≡ are_same (map ctype_tree l.fn.a) (map ctype_tree l.fn.b)

abbrev pub decreases-each : goal.decreases-each
decreases-each l = length l.left
