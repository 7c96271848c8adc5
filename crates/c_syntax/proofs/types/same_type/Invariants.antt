use Rattle.std.proofs.Common.{◌≡◌, ◌↔◌}
use Rattle.c_syntax.specs.Types.{ctype_tree}
use Rattle.c_syntax.proofs.types.same_type.Given as goal

abbrev pub invariant-loop-a : goal.invariant-loop-a
invariant-loop-a l = (ctype_tree l.a ≡ ctype_tree l.b) ↔ (ctype_tree l.fn.a ≡ ctype_tree l.fn.b)
