use Rattle.std.proofs.Common.{sym, ◌∙◌}
use Rattle.c_layout.proofs.Chains.{no_array-element}
use Rattle.lower_zeros.proofs.scalars.element_of.Goals as goal

pub returns : goal.returns
returns c = sym (no_array-element _ c.in_default.not-Array) ∙ c.loop-ty.invariant
