use Rattle.std.proofs.Common.{◌≡◌}
use Rattle.c_syntax.specs.Types.{ctype_tree}
use Rattle.c_layout.specs.RowTypes.{has_const_elements}
use Rattle.c_layout.proofs.qualified.has_const_elements.Given as goal

abbrev pub invariant-loop-ty : goal.invariant-loop-ty
invariant-loop-ty l = has_const_elements (ctype_tree l.ty) ≡ has_const_elements (ctype_tree l.fn.ty)
