use Rattle.bound_matrix.specs.Cells.{cell, IsTable}
use Rattle.bound_matrix.proofs.Pivots.{Pivoting}
use Rattle.bound_matrix.proofs.table.close_through.Given as goal

abbrev pub invariant-loop-at : goal.invariant-loop-at
invariant-loop-at l = record { table : IsTable l.n l.cells; so_far : Pivoting l.n l.at l.pivots (cell l.n l.fn.cells) (cell l.n l.cells) }
