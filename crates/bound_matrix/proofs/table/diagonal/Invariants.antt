use Rattle.bound_matrix.proofs.Paths.{DiagonalLoop}
use Rattle.bound_matrix.proofs.table.diagonal.Given as goal

abbrev pub invariant-loop-i : goal.invariant-loop-i
invariant-loop-i l = DiagonalLoop l.n l.i l.fn.cells l.cells
