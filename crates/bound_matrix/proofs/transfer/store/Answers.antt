use Rattle.std.proofs.Common.{arith, ◌∙◌}
use Rattle.bound_matrix.specs.Bound.{bound_at}
use Rattle.bound_matrix.specs.Cells.{cell}
use Rattle.bound_matrix.proofs.Places.{row-cost}
use Rattle.bound_matrix.proofs.Storing.{stored-step}
use Rattle.bound_matrix.proofs.transfer.store.Goals as goal

pub loop-i-preserved : goal.loop-i-preserved
loop-i-preserved g c = let h = c.loop-i.invariant in record {
  vars = c.store_row.ensures.vars ∙ h.vars;
  so_far = stored-step c.loop-i.i (cell c.args.n c.args.cells.now) (bound_at c.args.m.now) (bound_at c.loop-i.m) (bound_at c.store_row.new.m) h.so_far c.store_row.ensures.stored;
  cost = let e = row-cost c.loop-i.i in omega (arith, c.store_row.ensures.cost);
}
