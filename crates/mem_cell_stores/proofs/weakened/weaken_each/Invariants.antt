use Rattle.std.proofs.Common.{List, take, ℤ}
use Rattle.num_api.specs.Ranges.{InRange}
use Rattle.machine_nums.specs.Machines.{Admits}
use Rattle.mem_cell_bytes.specs.Stores.{IsChoice}
use Rattle.mem_cell_stores.proofs.weakened.weaken_each.Given as goal

abbrev pub invariant-loop-x : goal.invariant-loop-x
invariant-loop-x g l = (v w : List ℤ) (n : ℤ) → Admits g.D.Oracle.admits l.initial.nums v → InRange l.range n → IsChoice (take l.x-index l.variables) n v w → Admits g.D.Oracle.admits l.nums w
