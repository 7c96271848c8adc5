use Rattle.std.proofs.Common.{arith}
use Rattle.bound_matrix.specs.Cells.{cell}
use Rattle.bound_matrix.proofs.HalfRows.{halve-start, halve-step}
use Rattle.bound_matrix.proofs.table.halve.Goals as goal

pub loop-i-init : goal.loop-i-init
loop-i-init c = record { table = c.requires.table; so_far = halve-start c.args.n c.args.halves.now _ c.requires.range }

pub loop-i-preserved : goal.loop-i-preserved
loop-i-preserved c = let e = c.halve_row.ensures in record {
  table = e.table;
  so_far = halve-step c.args.n c.loop-i.i c.args.halves.now (cell c.args.n c.args.cells.now) (cell c.args.n c.loop-i.cells) (cell c.args.n c.halve_row.new.cells) c.loop-i.invariant.so_far e.range e.lower e.sound e.halved e.others;
}

pub returns-clause-halved : goal.returns-clause-halved
returns-clause-halved c h p l = record { row_halved = λ q g. c.loop-i.invariant.so_far.done h p q (omega arith) g }
