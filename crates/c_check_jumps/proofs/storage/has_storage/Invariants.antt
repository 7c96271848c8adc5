use Rattle.std.proofs.Common.{◌≡◌, length}
use Rattle.c_syntax_written.specs.Written.{specs_from, specs_tree}
use Rattle.c_typing.specs.Context.{has_storage}
use Rattle.c_check_jumps.proofs.storage.has_storage.Given as goal

abbrev pub invariant-each : goal.invariant-each
invariant-each l = has_storage l.word (specs_from l.left) ≡ has_storage l.word (specs_tree l.fn.specs)

abbrev pub decreases-each : goal.decreases-each
decreases-each l = length l.left
