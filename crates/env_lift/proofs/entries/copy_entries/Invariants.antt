use Rattle.std.proofs.Common.{◌≡◌, take}
use Rattle.env_lift.proofs.entries.copy_entries.Given as goal

abbrev pub invariant-loop-entry : goal.invariant-loop-entry
invariant-loop-entry g l = l.out.items ≡ take l.entry-index l.entries
