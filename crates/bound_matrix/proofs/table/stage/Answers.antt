use Rattle.std.proofs.Common.{arith}
use Rattle.bound_matrix.specs.Cells.{cell}
use Rattle.bound_matrix.proofs.Stages.{stage-start, stage-step, stage-end, outer-same}
use Rattle.bound_matrix.proofs.table.stage.Goals as goal

pub loop-i-init : goal.loop-i-init
loop-i-init c = record { table = c.requires.table; so_far = stage-start c.args.n c.args.k _ c.requires.range }

pub loop-i-preserved : goal.loop-i-preserved
loop-i-preserved c = let i = c.loop-i.invariant in let e = c.row.ensures in record {
  table = e.table;
  so_far = stage-step c.args.n c.args.k c.loop-i.i (cell c.args.n c.args.cells.now) (cell c.args.n c.loop-i.cells) (cell c.args.n c.row.new.cells) c.requires.pivot i.so_far e.range e.lower e.sound e.staged e.others (outer-same c.args.n c.args.cells.now c.loop-i.cells);
}

pub returns-clause-staged : goal.returns-clause-staged
returns-clause-staged c = stage-end c.args.n c.args.k c.loop-i.i c.args.cells.now c.loop-i.cells c.requires.pivot (omega arith) c.loop-i.invariant.so_far
