use Rattle.std.proofs.Common.{◌≡◌, ℕ, ◌≤◌, ◌-◌, get_or, vec_len}
use Rattle.std.specs.Prelude.{None}
use Rattle.c_check_functions.proofs.initials.empty_table.Given as goal

abbrev pub invariant-each : goal.invariant-each
invariant-each l = (vec_len l.table ≤ l.count) × ((n : ℕ) → get_or l.table.items n None ≡ None)

abbrev pub decreases-each : goal.decreases-each
decreases-each l = l.count - vec_len l.table
