use Rattle.octagons_bounds.proofs.Closing.{no-vars}
use Rattle.octagons_bounds.proofs.bounds.Bounds.empty.Goals as goal

pub returns : goal.returns
returns c = no-vars c.empty-matrix.result c.empty-matrix.ensures c.vars-none.ensures.kept
