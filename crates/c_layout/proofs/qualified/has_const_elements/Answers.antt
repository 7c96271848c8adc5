use Rattle.std.proofs.Common.{sym, ◌∙◌}
use Rattle.c_layout.proofs.Unqualified.{no_elements}
use Rattle.c_layout.proofs.qualified.has_const_elements.Goals as goal

pub returns : goal.returns
returns c = sym (no_elements _ c.in_default.not-Array) ∙ c.loop-ty.invariant
