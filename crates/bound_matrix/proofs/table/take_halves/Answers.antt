use Rattle.std.proofs.Common.{arith, refl, ap, ◌∙◌}
use Rattle.bound_matrix.specs.Cells.{cell}
use Rattle.bound_matrix.proofs.HalfRows.{take-start, take-step, take-end}
use Rattle.bound_matrix.proofs.table.take_halves.Goals as goal

pub loop-i-init : goal.loop-i-init
loop-i-init c = take-start c.args.n (cell c.args.n c.args.cells.now) _ refl

pub loop-i-preserved : goal.loop-i-preserved
loop-i-preserved c = let e = c.half_of.ensures in take-step c.args.n c.loop-i.i (cell c.args.n c.args.cells.now) c.loop-i.halves c.read.result c.half_of.result (let f = c.requires.table.few in omega arith) c.loop-i.invariant (c.read.ensures ∙ ap (cell c.args.n c.args.cells.now c.loop-i.i) c.partner.ensures) e.range e.half e.near

pub returns : goal.returns
returns c = take-end c.args.n c.loop-i.i (cell c.args.n c.args.cells.now) c.loop-i.halves (omega arith) c.loop-i.invariant
