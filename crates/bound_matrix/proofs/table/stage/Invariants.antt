use Rattle.bound_matrix.proofs.Stages.{StageLoop}
use Rattle.bound_matrix.proofs.table.stage.Given as goal

abbrev pub invariant-loop-i : goal.invariant-loop-i
invariant-loop-i l = StageLoop l.n l.k l.i l.fn.cells l.cells
