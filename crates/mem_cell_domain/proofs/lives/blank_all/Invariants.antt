use Rattle.std.proofs.Common.{◌≡◌, map, take}
use Rattle.c_syntax.specs.Types.{object_tree}
use Rattle.mem_cell_domain.specs.Lives.{begun}
use Rattle.mem_cell_domain.proofs.lives.blank_all.Given as goal

abbrev pub invariant-loop-name : goal.invariant-loop-name
invariant-loop-name l = l.grid ≡ begun (map object_tree l.objects) l.initial.grid (take l.name-index l.names)
