use Rattle.std.proofs.Common.{◌≡◌}
use Rattle.c_syntax_written.specs.Written.{declarator_tree}
use Rattle.c_typing.specs.Context.{name_in}
use Rattle.c_check_jumps.proofs.declarators.name_in.Given as goal

abbrev pub invariant-inward : goal.invariant-inward
invariant-inward l = name_in (declarator_tree l.part) ≡ name_in (declarator_tree l.fn.declarator)
