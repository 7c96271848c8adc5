use Rattle.std.proofs.Common.{◌≡◌}
use Rattle.c_syntax.specs.Types.{ctype_tree}
use Rattle.c_layout.specs.Kept.{element}
use Rattle.lower_zeros.proofs.scalars.element_of.Given as goal

abbrev pub invariant-loop-ty : goal.invariant-loop-ty
invariant-loop-ty l = element (ctype_tree l.ty) ≡ element (ctype_tree l.fn.ty)
