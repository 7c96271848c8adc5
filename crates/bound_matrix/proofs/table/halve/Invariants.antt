use Rattle.bound_matrix.proofs.HalfRows.{HalveLoop}
use Rattle.bound_matrix.proofs.table.halve.Given as goal

abbrev pub invariant-loop-i : goal.invariant-loop-i
invariant-loop-i l = HalveLoop l.n l.i l.halves l.fn.cells l.cells
