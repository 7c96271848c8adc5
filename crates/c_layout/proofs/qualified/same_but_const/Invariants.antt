use Rattle.std.proofs.Common.{◌↔◌}
use Rattle.c_syntax.specs.Types.{ctype_tree}
use Rattle.c_layout.specs.RowTypes.{SameType}
use Rattle.c_layout.proofs.qualified.same_but_const.Given as goal

abbrev pub invariant-loop-a : goal.invariant-loop-a
invariant-loop-a l = SameType (ctype_tree l.a) (ctype_tree l.b) ↔ SameType (ctype_tree l.fn.a) (ctype_tree l.fn.b)
