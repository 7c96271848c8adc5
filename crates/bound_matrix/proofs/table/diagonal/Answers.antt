use Rattle.std.proofs.Common.{sym, subst, ◌∙◌}
use Rattle.bound_matrix.specs.Cells.{cell}
use Rattle.bound_matrix.proofs.Paths.{diagonal-start, diagonal-step, lesser-moved, zero-lesser}
use Rattle.bound_matrix.specs.Bound.{InRange}
use Rattle.bound_matrix.proofs.table.diagonal.Goals as goal

pub loop-i-init : goal.loop-i-init
loop-i-init c = record { table = c.requires.table; so_far = diagonal-start c.args.n _ c.requires.range }

pub loop-i-preserved : goal.loop-i-preserved
loop-i-preserved c = record {
  table = c.write.ensures.table;
  so_far = diagonal-step c.args.n c.loop-i.i c.loop-i-test.true (cell c.args.n c.args.cells.now) (cell c.args.n c.loop-i.cells) (cell c.args.n c.write.new.cells) c.loop-i.invariant.so_far
      (lesser-moved c.read-e.ensures (c.write.ensures.here ∙ c.min.ensures.value) (zero-lesser c.read-e.result (subst InRange (sym c.read-e.ensures) (c.loop-i.invariant.so_far.range.range c.loop-i.i c.loop-i.i))))
      c.write.ensures.others;
}
