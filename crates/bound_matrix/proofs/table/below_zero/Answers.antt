use Rattle.std.proofs.Common.{arith}
use Rattle.bound_matrix.specs.Cells.{cell}
use Rattle.bound_matrix.proofs.Paths.{all-up, one-more, no-point}
use Rattle.bound_matrix.proofs.table.below_zero.Goals as goal

pub loop-i-preserved : goal.loop-i-preserved
loop-i-preserved c = one-more c.args.n c.loop-i.i c.args.cells.now c.read.result c.read.ensures (c.is_negative.ensures.no c.if-is_negative.false) c.loop-i.invariant

pub returns-clause-no : goal.returns-clause-no
returns-clause-no c h = all-up c.args.n c.loop-i.i c.args.cells.now (omega arith) c.loop-i.invariant

pub returns-then-is_negative-clause-yes : goal.returns-then-is_negative-clause-yes
returns-then-is_negative-clause-yes c _ = no-point c.loop-i.i (cell c.args.n c.args.cells.now) c.read.result c.read.ensures (c.is_negative.ensures.yes c.if-is_negative.true)
