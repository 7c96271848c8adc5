use Rattle.std.proofs.Common.{sym, ◌∙◌}
use Rattle.cell_table.proofs.Slots.{number-found, number-new}
use Rattle.cell_table.proofs.number_for.Goals as goal

pub returns-in-Some : goal.returns-in-Some
returns-in-Some c = sym (number-found c.args.cells.now.entries c.args.key c.in-Some.there (sym c.in-Some.ensures.index))

pub returns-in-None : goal.returns-in-None
returns-in-None c = c.len.ensures.len ∙ sym (number-new c.args.cells.now.entries c.args.key (sym c.in-None.ensures.index))
