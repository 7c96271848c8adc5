use Rattle.bound_matrix.specs.Cells.{cell}
use Rattle.bound_matrix.proofs.HalfRows.{TakeLoop}
use Rattle.bound_matrix.proofs.table.take_halves.Given as goal

abbrev pub invariant-loop-i : goal.invariant-loop-i
invariant-loop-i l = TakeLoop l.n l.i (cell l.n l.cells) l.halves
