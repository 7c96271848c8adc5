use Rattle.mem_cell_loads.proofs.Made.{found-cell, found-fill}
use Rattle.mem_cell_loads.proofs.found.find.Goals as goal

pub returns-in-Some-cell_with : goal.returns-in-Some-cell_with
returns-in-Some-cell_with c =
    found-cell c.args.grid.now c.args.object c.args.at c.args.count c.in-Some.held.now c.cells.result.now c.in-Some-cell_with.e.now c.in_ok-copy.field-0
    c.in-Some.ensures c.cells.ensures c.in-Some-cell_with.ensures c.in_ok-copy.ensures

pub returns-in-Some-fill_with : goal.returns-in-Some-fill_with
returns-in-Some-fill_with c =
    found-fill c.args.grid.now c.args.object c.args.at c.args.count c.in-Some.held.now c.stretches.result.now c.in-Some-fill_with.x
    c.in-Some.ensures c.stretches.ensures c.in-Some-fill_with.ensures
