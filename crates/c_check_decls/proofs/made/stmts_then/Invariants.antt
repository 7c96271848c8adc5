use Rattle.std.proofs.Common.{◌≡◌, ◌++◌, vec_len}
use Rattle.std.specs.Prelude.{reverse}
use Rattle.c_check_decls.proofs.made.stmts_then.Given as goal

abbrev pub invariant-each : goal.invariant-each
invariant-each l = l.all.items ++ reverse l.left.items ≡ l.fn.first.items ++ l.fn.next.items

abbrev pub decreases-each : goal.decreases-each
decreases-each l = vec_len l.left
