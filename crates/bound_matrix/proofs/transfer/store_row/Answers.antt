use Rattle.std.proofs.Common.{arith, sym, ◌∙◌}
use Rattle.bound_matrix.specs.Bound.{bound_at}
use Rattle.bound_matrix.specs.Cells.{cell}
use Rattle.bound_matrix.proofs.Places.{bound-mirror}
use Rattle.bound_matrix.proofs.Storing.{row-stored-step}
use Rattle.bound_matrix.proofs.transfer.store_row.Goals as goal

pub loop-j-preserved : goal.loop-j-preserved
loop-j-preserved g c = let h = c.loop-j.invariant in let i = c.args.i in let j = c.loop-j.j in record {
  vars = c.lower.ensures.vars ∙ h.vars;
  so_far = row-stored-step i j (cell c.args.n c.args.cells.now) (bound_at c.args.m.now) (bound_at c.loop-j.m) (bound_at c.lower.new.self) c.read-e.result c.read-e.ensures (c.requires.cells.range i j) (sym (bound-mirror c.loop-j.m i j)) h.so_far c.lower.ensures.lowered;
  cost = omega (arith, c.lower.ensures.step);
}
