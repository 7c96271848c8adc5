use Rattle.bound_matrix.proofs.Paths.{CloseLoop}
use Rattle.bound_matrix.proofs.table.close_paths.Given as goal

abbrev pub invariant-loop-k : goal.invariant-loop-k
invariant-loop-k l = CloseLoop l.n l.k l.fn.cells l.cells
