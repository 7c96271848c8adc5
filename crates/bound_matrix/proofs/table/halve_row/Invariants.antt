use Rattle.bound_matrix.proofs.HalfRows.{HalfRowLoop}
use Rattle.bound_matrix.proofs.table.halve_row.Given as goal

abbrev pub invariant-loop-j : goal.invariant-loop-j
invariant-loop-j l = HalfRowLoop l.n l.i l.j l.halves l.fn.cells l.cells l.a
