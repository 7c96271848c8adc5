use Rattle.std.proofs.Common.{◌≡◌, ◌++◌, take}
use Rattle.std.specs.List.{flat_map}
use Rattle.c_rules_effects.specs.Taken.{byte_taken}
use Rattle.c_rules_effects.proofs.table.add_initial.Given as goal

abbrev pub invariant-loop-byte : goal.invariant-loop-byte
invariant-loop-byte l = l.taken.items ≡ l.initial.taken.items ++ flat_map byte_taken (take l.byte-index l.byte-items)
