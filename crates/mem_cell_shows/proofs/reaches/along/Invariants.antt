use Rattle.std.proofs.Common.{ℕ}
use Rattle.mem_cell_shows.specs.Reaches.{IsReach}
use Rattle.mem_cell_shows.proofs.reaches.along.Given as goal

abbrev pub invariant-loop-n : goal.invariant-loop-n
invariant-loop-n l = (from : ℕ) → IsReach l.held from l.fn.first → IsReach l.held from l.r
