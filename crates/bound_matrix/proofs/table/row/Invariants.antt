use Rattle.bound_matrix.proofs.Stages.{RowLoop}
use Rattle.bound_matrix.proofs.table.row.Given as goal

abbrev pub invariant-loop-j : goal.invariant-loop-j
invariant-loop-j l = RowLoop l.n l.k l.i l.j l.fn.cells l.cells l.a
