use Rattle.bound_matrix.specs.Bound.{bound_at}
use Rattle.bound_matrix.specs.Points.{signed}
use Rattle.bound_matrix.specs.Cells.{cell}
use Rattle.bound_matrix.proofs.Promises.{gone-points, gone-lower, gone-tight, signed-opposite, Meets-same, IsSmall-same, mirrored-same, was-tightly, cost-whole, cost-read}
use Rattle.bound_matrix.proofs.tighten.close_one_counted.Goals as goal

pub returns-then-not-close_lowered-clause-dead : goal.returns-then-not-close_lowered-clause-dead
returns-then-not-close_lowered-clause-dead g c _ v h = c.close_lowered.ensures.dead c.if-not-close_lowered.true (signed v) (signed-opposite v) (Meets-same (bound_at c.args.m.now) (cell c.indices-n.result c.load.new.cells) (signed v) c.load.ensures.same h)

pub returns-clause-lower : goal.returns-clause-lower
returns-clause-lower g c = gone-lower c.args.m.now c.store.new.m c.indices-n.result c.load.new.cells c.close_lowered.new.cells c.indices-n.ensures.value c.indices-n.ensures.range c.load.ensures.same c.close_lowered.ensures.range c.close_lowered.ensures.lower c.close_lowered.ensures.sound c.store.ensures.stored

pub returns-clause-points : goal.returns-clause-points
returns-clause-points g c = gone-points c.args.m.now c.store.new.m c.indices-n.result c.load.new.cells c.close_lowered.new.cells c.indices-n.ensures.value c.indices-n.ensures.range c.load.ensures.same c.close_lowered.ensures.range c.close_lowered.ensures.lower c.close_lowered.ensures.sound c.store.ensures.stored

pub returns-clause-tight : goal.returns-clause-tight
returns-clause-tight g c _ small = gone-tight c.args.m.now c.store.new.m c.indices-n.result c.load.new.cells c.close_lowered.new.cells c.indices-n.ensures.value c.indices-n.ensures.range c.load.ensures.same c.close_lowered.ensures.range c.close_lowered.ensures.lower c.close_lowered.ensures.sound c.store.ensures.stored
    (c.close_lowered.ensures.tight c.if-not-close_lowered.false
    (IsSmall-same (bound_at c.args.m.now) (cell c.indices-n.result c.load.new.cells) c.load.ensures.same small)
    (mirrored-same c.indices-n.result c.args.m.now (cell c.indices-n.result c.load.new.cells) c.load.ensures.same)
    (was-tightly c.args.m.now c.indices-n.result c.args.i c.args.j (cell c.indices-n.result c.load.new.cells) c.indices-n.ensures.value c.load.ensures.same c.requires.lowered))

pub returns-clause-cost : goal.returns-clause-cost
returns-clause-cost g c = cost-whole c.args.m.now.vars c.indices-n.result c.args.steps.now c.load.new.steps c.store.new.steps c.indices-n.ensures.value c.load.ensures.cost c.store.ensures.cost

pub returns-then-not-close_lowered-clause-cost : goal.returns-then-not-close_lowered-clause-cost
returns-then-not-close_lowered-clause-cost g c = cost-read c.args.m.now.vars c.indices-n.result c.args.steps.now c.load.new.steps c.indices-n.ensures.value c.load.ensures.cost
