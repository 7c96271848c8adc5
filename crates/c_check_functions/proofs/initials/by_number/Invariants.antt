use Rattle.std.proofs.Common.{◌≡◌, ℕ, ◌<◌, vec_len}
use Rattle.c_check_functions.proofs.Tables.{found, given_to}
use Rattle.c_check_functions.proofs.initials.by_number.Given as goal

-- what is left goes before the table
abbrev pub invariant-each : goal.invariant-each
invariant-each l = (vec_len l.table ≡ l.count) × ((n : ℕ) → n < l.count → found l.left.items l.table.items n ≡ given_to l.fn.given.items n)

abbrev pub decreases-each : goal.decreases-each
decreases-each l = vec_len l.left
