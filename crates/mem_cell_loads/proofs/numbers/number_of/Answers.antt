use Rattle.mem_cell_loads.proofs.numbers.number_of.Goals as goal

pub returns-in-Cell : goal.returns-in-Cell
returns-in-Cell g c = rw c.in-Cell.is c.cell_value.ensures

pub returns-in-Fill : goal.returns-in-Fill
returns-in-Fill g c = rw c.in-Fill.is c.fill_value.ensures
