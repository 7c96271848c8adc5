use Rattle.std.proofs.Common.{◌≡◌}
use Rattle.c_syntax_written.specs.Written.{declarator_tree}
use Rattle.c_typing.specs.Context.{is_plain_name}
use Rattle.c_check_jumps.proofs.declarators.is_plain_name.Given as goal

abbrev pub invariant-inward : goal.invariant-inward
invariant-inward l = is_plain_name (declarator_tree l.part) ≡ is_plain_name (declarator_tree l.fn.declarator)
