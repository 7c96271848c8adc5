use Rattle.std.proofs.Common.{sym, ◌∙◌}
use Rattle.cell_table.proofs.Slots.{length-slots_of}
use Rattle.cell_table.proofs.Cells.count.Goals as goal

pub returns-clause-count : goal.returns-clause-count
returns-clause-count c = rw (← c.self.view_is) (c.len.ensures.len ∙ sym (length-slots_of c.self.inside.cells.entries))
