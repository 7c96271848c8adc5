use Rattle.std.proofs.Common.{◌≡◌, ◌++◌, take}
use Rattle.std.specs.List.{flat_map}
use Rattle.c_rules_effects.specs.Taken.{initial_taken}
use Rattle.c_rules_effects.proofs.table.add_initials.Given as goal

abbrev pub invariant-loop-initial : goal.invariant-loop-initial
invariant-loop-initial l = l.taken.items ≡ l.initial.taken.items ++ flat_map initial_taken (take l.initial-index l.initial-items)
