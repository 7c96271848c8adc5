use Rattle.std.proofs.Common.{arith, refl, ap}
use Rattle.bound_matrix.specs.Cells.{cell, half_at}
use Rattle.bound_matrix.proofs.Stages.{relax-moved}
use Rattle.bound_matrix.proofs.HalfRows.{half-row-start, half-row-step}
use Rattle.bound_matrix.proofs.table.halve_row.Goals as goal

pub loop-j-init : goal.loop-j-init
loop-j-init c = record { table = c.requires.table; first = refl; so_far = half-row-start c.args.n c.args.i c.args.halves.now _ c.requires.range }

pub loop-j-preserved : goal.loop-j-preserved
loop-j-preserved c = let i = c.loop-j.invariant in let e = c.relax.ensures in record {
  table = c.write.ensures.table;
  first = refl;
  so_far = half-row-step c.args.n c.args.i c.loop-j.j c.args.halves.now c.requires.table.few c.requires.row c.loop-j-test.true c.requires.halves (cell c.args.n c.args.cells.now) (cell c.args.n c.loop-j.cells) (cell c.args.n c.write.new.cells) i.so_far
      (relax-moved refl (ap (half_at c.args.halves.now) c.partner.ensures) c.read-e.ensures c.write.ensures.here (record { range = e.range; lower = e.lower; sound = e.sound; exact = e.exact }))
      c.write.ensures.others;
}

pub returns-clause-halved : goal.returns-clause-halved
returns-clause-halved c h = record { row_halved = λ q l. c.loop-j.invariant.so_far.done h q (omega arith) }
