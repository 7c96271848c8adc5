use Rattle.std.proofs.Common.{subst, sym}
use Rattle.mem_cell_grid.proofs.Lists.{has-index}
use Rattle.mem_cell_stores.specs.Hits.{AreWeakCells}
use Rattle.mem_cell_stores.proofs.Weaker.{weak-none}
use Rattle.mem_cell_stores.proofs.weakly.weak_cells.Goals as goal

pub loop-e-init : goal.loop-e-init
loop-e-init c =
    let o = c.args.object in let b = c.args.bytes in let ty = c.args.ty in let content = c.args.content.now in let ys = c.args.variables.now.items in let cells = c.args.cells.now in
    (λ y h. h, subst (AreWeakCells o b ty content ys cells) (sym c.new-weak.ensures.items) (weak-none o b ty content cells ys))

pub loop-e-preserved : goal.loop-e-preserved
loop-e-preserved c =
    let cells = c.args.cells.now in let e = c.e-item.result in (
      λ y h. c.in_ok-push_weak.ensures.among y (c.loop-e.invariant.0 y h),
      c.in_ok-push_weak.ensures.cells cells (has-index cells c.loop-e.e-index e e c.loop-e-test.true c.e-item.is) c.loop-e.invariant.1,
    )
