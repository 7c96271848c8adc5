use Rattle.std.proofs.Common.{◌≡◌, length}
use Rattle.mem_cell_grid.specs.Endings.{AreAllKilled}
use Rattle.mem_cell_grid.proofs.ended.all_killed.Given as goal

abbrev pub invariant-loop-held : goal.invariant-loop-held
invariant-loop-held l = (length l.left.items ≡ l.held-index) × AreAllKilled l.gone l.objects l.left.items
