use Rattle.std.proofs.Common.{sym, ◌∙◌}
use Rattle.mem_objects.proofs.Lists.{some_cell}
use Rattle.mem_objects.proofs.cells.Cells.covers.Goals as goal

pub returns-then-not-covers_one-clause-no : goal.returns-then-not-covers_one-clause-no
returns-then-not-covers_one-clause-no c = λ e.
    let s = c.covers_one.ensures.no c.if-not-covers_one.true in some_cell c.args.self.now c.loop-x.x s.0 (sym c.get.ensures ∙ s.1)
