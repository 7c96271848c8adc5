use Rattle.std.proofs.Common.{length, ap, arith, rules}
use Rattle.cell_table.specs.Cells.{Table}
use Rattle.cell_table.proofs.Slots.{length-slots_of, cell_at-slots_of}
use Rattle.cell_table.proofs.Cells.cell.Goals as goal

pub unwrap-requires : goal.unwrap-requires
unwrap-requires c =
    c.get_index.ensures.found.1 (omega (arith, c.requires, ap (λ (t : Table). length t.slots) c.self.view_is, length-slots_of c.self.inside.cells.entries))

pub returns-clause-cell : goal.returns-clause-cell
returns-clause-cell c = rw (← c.self.view_is) (cell_at-slots_of c.self.inside.cells.entries c.args.n (c.unwrap.result.0.now, c.unwrap.result.1.now) (search rules))
