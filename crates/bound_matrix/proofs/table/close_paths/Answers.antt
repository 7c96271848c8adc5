use Rattle.std.proofs.Common.{arith}
use Rattle.bound_matrix.specs.Cells.{cell}
use Rattle.bound_matrix.proofs.Paths.{progress-start, progress-step, closed-at, near-end}
use Rattle.bound_matrix.proofs.table.close_paths.Goals as goal

pub loop-k-init : goal.loop-k-init
loop-k-init c = let e = c.diagonal.ensures in record {
  table = e.table;
  progress = progress-start c.args.n (cell c.args.n c.args.cells.now) (cell c.args.n c.diagonal.new.cells) e.range e.lower e.sound e.zero e.small e.least (c.below_zero.ensures.no c.if-below_zero.false);
}

pub loop-k-preserved : goal.loop-k-preserved
loop-k-preserved c = let e = c.stage.ensures in record {
  table = e.table;
  progress = progress-step c.args.n c.loop-k.k c.requires.table.few c.loop-k-test.true (cell c.args.n c.args.cells.now) (cell c.args.n c.loop-k.cells) (cell c.args.n c.stage.new.cells) c.loop-k.invariant.progress e.range e.lower e.sound e.staged (c.below_zero-in-loop-k.ensures.no c.if-below_zero-2.false);
}

pub returns-clause-closed : goal.returns-clause-closed
returns-clause-closed c _ s = closed-at c.args.n c.loop-k.k (cell c.args.n c.args.cells.now) (cell c.args.n c.loop-k.cells) (omega arith) c.loop-k.invariant.progress s

pub returns-clause-near : goal.returns-clause-near
returns-clause-near c _ s = near-end c.args.n c.loop-k.k (cell c.args.n c.args.cells.now) (cell c.args.n c.loop-k.cells) c.requires.table.few (omega arith) c.loop-k.invariant.progress s
