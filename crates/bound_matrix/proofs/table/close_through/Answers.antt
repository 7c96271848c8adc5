use Rattle.std.proofs.Common.{arith, refl}
use Rattle.std.specs.Prelude.{slice_index}
use Rattle.bound_matrix.specs.Cells.{cell}
use Rattle.bound_matrix.proofs.Pivots.{pivoting-start, pivoting-step, pivoting-closed, pivoting-near}
use Rattle.bound_matrix.proofs.table.close_through.Goals as goal

pub loop-at-init : goal.loop-at-init
loop-at-init c = record { table = c.requires.table; so_far = pivoting-start c.args.n c.args.pivots.now (cell c.args.n c.args.cells.now) c.requires.range (c.below_zero.ensures.no c.if-below_zero.false) }

pub loop-at-preserved : goal.loop-at-preserved
loop-at-preserved c = let e = c.stage.ensures in let at = c.loop-at.at in let ps = c.args.pivots.now in record {
  table = e.table;
  so_far = pivoting-step c.args.n at ps (slice_index ps at) refl c.requires.few c.loop-at-test.true (c.requires.inside at c.loop-at-test.true) (cell c.args.n c.args.cells.now) (cell c.args.n c.loop-at.cells) (cell c.args.n c.stage.new.cells) c.loop-at.invariant.so_far e.range e.lower e.sound e.staged (c.below_zero-in-loop-at.ensures.no c.if-below_zero-2.false);
}

pub returns-clause-closed : goal.returns-clause-closed
returns-clause-closed c _ = pivoting-closed c.args.n c.loop-at.at c.args.pivots.now (cell c.args.n c.args.cells.now) (cell c.args.n c.loop-at.cells) c.loop-at-test.false c.loop-at.invariant.so_far

pub returns-clause-near : goal.returns-clause-near
returns-clause-near c _ = pivoting-near c.args.n c.loop-at.at c.args.pivots.now (cell c.args.n c.args.cells.now) (cell c.args.n c.loop-at.cells) (let f = c.requires.few in omega arith) c.loop-at.invariant.so_far
