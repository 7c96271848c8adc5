use Rattle.std.proofs.Common.{length, ap, ◌∙◌, arith}
use Rattle.cell_table.specs.Cells.{Table}
use Rattle.cell_table.proofs.Slots.{length-slots_of, used_at-values}
use Rattle.cell_table.proofs.Cells.in_use.Goals as goal

pub index-requires : goal.index-requires
index-requires c =
    omega (arith, c.requires, ap (λ (t : Table). length t.slots) c.self.view_is, length-slots_of c.self.inside.cells.entries)

pub returns : goal.returns
returns c = rw (← c.self.view_is) (used_at-values c.self.inside.cells.entries c.args.n ∙ c.index.ensures)
