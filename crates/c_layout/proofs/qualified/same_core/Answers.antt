use Rattle.std.proofs.Common.{ap}
use Rattle.c_layout.specs.RowTypes.{unqualified}
use Rattle.c_layout.proofs.Unqualified.{core_same}
use Rattle.c_layout.proofs.qualified.same_core.Goals as goal

pub returns : goal.returns
returns c = (λ e. ap unqualified (c.same_type.ensures.0 e), λ same. c.same_type.ensures.1 (core_same _ _ c.requires same))
