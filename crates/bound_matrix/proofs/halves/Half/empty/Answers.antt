use Rattle.std.proofs.Common.{ap, length}
use Rattle.bound_matrix.proofs.Places.{empty-kept}
use Rattle.bound_matrix.proofs.halves.Half.empty.Goals as goal

pub invariant_of-result : goal.invariant_of-result
invariant_of-result c = empty-kept c.new.result.items (ap length c.new.ensures.items)
