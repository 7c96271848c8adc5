use Rattle.mem_cell_stores.proofs.Kept.{at-forgotten, nothing-there}
use Rattle.mem_cell_stores.proofs.grids.forget_at.Goals as goal

pub returns-in_default : goal.returns-in_default
returns-in_default c = nothing-there c.args.grid.now c.args.object c.args.at c.args.count c.in_default.ensures

pub returns : goal.returns
returns c =
    at-forgotten c.args.grid.now c.put.new.self c.args.object c.args.at c.args.count c.in-Some.held.now c.in_ok-held.held c.in-Some.ensures c.in_ok-held.ensures.cells
    c.in_ok-held.ensures.bytes c.put.ensures
