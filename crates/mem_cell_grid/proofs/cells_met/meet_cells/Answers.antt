use Rattle.std.proofs.Common.{take, sym, subst}
use Rattle.mem_cell_grid.specs.Meetings.{AreCellsMet}
use Rattle.mem_cell_grid.proofs.Lists.{get-index, take-push}
use Rattle.mem_cell_grid.proofs.Meetings.{cells-step}
use Rattle.mem_cell_grid.proofs.cells_met.meet_cells.Goals as goal

pub loop-e-preserved : goal.loop-e-preserved
loop-e-preserved c =
    let cells = c.args.cells.now in let others = c.args.others.now in let e = c.e-item.result in let i = c.loop-e.e-index in let met = c.meet_cell.new.met.items in
    let at = get-index cells i e e c.loop-e-test.true c.e-item.is in (
      c.seek-at.ensures,
      subst (λ xs. AreCellsMet xs others met c.both-kept.result) (sym (take-push cells i e at))
          (subst (AreCellsMet _ others met) (sym c.both-kept.ensures)
          (cells-step (take i cells) others c.loop-e.met.items met e c.loop-e.kept c.loop-e.invariant.1 c.in_ok-keeps.keeps c.in_ok-keeps.ensures)),
    )
