use Rattle.mem_cell_stores.proofs.Kept.{cell-put, no-object}
use Rattle.mem_cell_stores.proofs.grids.put_cell.Goals as goal

pub returns-in_default : goal.returns-in_default
returns-in_default c = no-object c.args.grid.now c.args.object c.args.cell c.in_default.ensures

pub returns : goal.returns
returns c =
    cell-put c.args.grid.now c.put.new.self c.args.object c.args.cell c.in-Some.held.now c.in_ok-held.held c.in-Some.ensures c.in_ok-held.ensures.cells
    c.in_ok-held.ensures.bytes c.put.ensures
