use Rattle.mem_cell_shows.proofs.cuts.without.Goals as goal

pub returns-then-dead : goal.returns-then-dead
returns-then-dead c = rw c.if-dead.true c.without_dead.ensures

pub returns-else-dead : goal.returns-else-dead
returns-else-dead c = rw c.if-dead.false c.without_null.ensures
