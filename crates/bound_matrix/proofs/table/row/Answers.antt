use Rattle.std.proofs.Common.{arith, sym, subst}
use Rattle.bound_matrix.specs.Cells.{cell}
use Rattle.bound_matrix.proofs.Stages.{row-start, row-step, relax-moved}
use Rattle.bound_matrix.specs.Bound.{InRange}
use Rattle.bound_matrix.proofs.table.row.Goals as goal

pub loop-j-init : goal.loop-j-init
loop-j-init c = record { table = c.requires.table; first = c.read-a.ensures; so_far = row-start c.args.k c.args.i _ c.requires.range }

pub relax-requires-clause-first : goal.relax-requires-clause-first
relax-requires-clause-first c = subst InRange (sym c.read-a.ensures) (c.requires.range.range c.args.i c.args.k)

pub relax-requires-clause-second : goal.relax-requires-clause-second
relax-requires-clause-second c = subst InRange (sym c.read-b.ensures) (c.loop-j.invariant.so_far.range.range c.args.k c.loop-j.j)

pub relax-requires-clause-third : goal.relax-requires-clause-third
relax-requires-clause-third c = subst InRange (sym c.read-e.ensures) (c.loop-j.invariant.so_far.range.range c.args.i c.loop-j.j)

pub loop-j-preserved : goal.loop-j-preserved
loop-j-preserved c = let i = c.loop-j.invariant in record {
  table = c.write.ensures.table;
  first = i.first;
  so_far = row-step c.args.k c.args.i c.loop-j.j (cell c.args.n c.args.cells.now) (cell c.args.n c.loop-j.cells) (cell c.args.n c.write.new.cells) i.so_far
      (relax-moved c.read-a.ensures c.read-b.ensures c.read-e.ensures c.write.ensures.here (record { range = c.relax.ensures.range; lower = c.relax.ensures.lower; sound = c.relax.ensures.sound; exact = c.relax.ensures.exact }))
      c.write.ensures.others;
}

pub returns-clause-staged : goal.returns-clause-staged
returns-clause-staged c h = record { here = λ q l. c.loop-j.invariant.so_far.done h q (omega arith); others = c.loop-j.invariant.so_far.others }
