use Rattle.bound_matrix.specs.Bound.{bound_at}
use Rattle.bound_matrix.specs.Points.{signed}
use Rattle.bound_matrix.specs.Cells.{cell}
use Rattle.bound_matrix.proofs.Promises.{gone-points, gone-lower, gone-tight, signed-opposite, Meets-same, IsSmall-same, mirrored-same}
use Rattle.bound_matrix.proofs.tighten.close_counted.Goals as goal

pub returns-then-not-close_cells-clause-dead : goal.returns-then-not-close_cells-clause-dead
returns-then-not-close_cells-clause-dead g c _ v h = c.close_cells.ensures.dead c.if-not-close_cells.true (signed v) (signed-opposite v) (Meets-same (bound_at c.args.m.now) (cell c.indices-n.result c.load.new.cells) (signed v) c.load.ensures.same h)

pub returns-clause-lower : goal.returns-clause-lower
returns-clause-lower g c = gone-lower c.args.m.now c.store.new.m c.indices-n.result c.load.new.cells c.close_cells.new.cells c.indices-n.ensures.value c.indices-n.ensures.range c.load.ensures.same c.close_cells.ensures.range c.close_cells.ensures.lower c.close_cells.ensures.sound c.store.ensures.stored

pub returns-clause-points : goal.returns-clause-points
returns-clause-points g c = gone-points c.args.m.now c.store.new.m c.indices-n.result c.load.new.cells c.close_cells.new.cells c.indices-n.ensures.value c.indices-n.ensures.range c.load.ensures.same c.close_cells.ensures.range c.close_cells.ensures.lower c.close_cells.ensures.sound c.store.ensures.stored

pub returns-clause-tight : goal.returns-clause-tight
returns-clause-tight g c _ small = gone-tight c.args.m.now c.store.new.m c.indices-n.result c.load.new.cells c.close_cells.new.cells c.indices-n.ensures.value c.indices-n.ensures.range c.load.ensures.same c.close_cells.ensures.range c.close_cells.ensures.lower c.close_cells.ensures.sound c.store.ensures.stored
    (c.close_cells.ensures.tight c.if-not-close_cells.false
    (IsSmall-same (bound_at c.args.m.now) (cell c.indices-n.result c.load.new.cells) c.load.ensures.same small)
    (mirrored-same c.indices-n.result c.args.m.now (cell c.indices-n.result c.load.new.cells) c.load.ensures.same))
