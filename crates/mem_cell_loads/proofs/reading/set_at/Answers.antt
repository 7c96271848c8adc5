use Rattle.mem_cell_loads.proofs.reading.set_at.Goals as goal

pub returns-in-Pointer : goal.returns-in-Pointer
returns-in-Pointer g c = rw c.in-Pointer.is c.set_of.ensures
