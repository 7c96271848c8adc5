use Rattle.std.proofs.Common.{subst, sym}
use Rattle.block_mem.specs.declared.types.Scalar.TheVariants as scalars
use Rattle.mem_cell_loads.specs.Found.{IsSetAt}
use Rattle.mem_cell_loads.proofs.Cells.{cell-set}
use Rattle.mem_cell_loads.proofs.reading.set_of.Goals as goal

pub returns-in_ok-cell_set-in-Cell : goal.returns-in_ok-cell_set-in-Cell
returns-in_ok-cell_set-in-Cell g c =
    let admits = g.D.Oracle.admits in let known = c.args.known.now in let o = c.args.object in let at = c.args.at in
    rw c.in-Cell.is (λ there. subst (IsSetAt admits known o at scalars.Pointer) (sym c.in_ok-cell_set-in-Cell.ensures) (cell-set admits known o at c.in-Cell.e there))

pub returns-in_ok-fill_set-in-Fill : goal.returns-in_ok-fill_set-in-Fill
returns-in_ok-fill_set-in-Fill g c = rw c.in-Fill.is c.in_ok-fill_set-in-Fill.ensures
