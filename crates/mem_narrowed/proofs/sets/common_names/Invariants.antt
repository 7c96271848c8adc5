use Rattle.std.proofs.Common.{◌≡◌, ◌++◌, drop}
use Rattle.mem_narrowed.specs.Narrowed.{common}
use Rattle.mem_narrowed.proofs.sets.common_names.Given as goal

abbrev pub invariant-loop-name : goal.invariant-loop-name
invariant-loop-name l = l.found.items ++ common (drop l.name-index l.names) l.others ≡ common l.fn.names l.fn.others
