use Rattle.std.proofs.Common.{◌≡◌, take}
use Rattle.mem_cell_bytes.specs.Ends.{killed_all}
use Rattle.mem_cell_bytes.proofs.shared_set.killed_each.Given as goal

abbrev pub invariant-loop-x : goal.invariant-loop-x
invariant-loop-x l = l.left ≡ killed_all l.fn.set (take l.x-index l.gone)
