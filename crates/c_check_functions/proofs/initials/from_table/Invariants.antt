use Rattle.std.proofs.Common.{◌≡◌, ℕ, ◌<◌, ◌≤◌, List, length, map, drop, get_or, vec_len}
use Rattle.std.specs.Prelude.{None, reverse}
use Rattle.c_syntax.specs.declared.program.Initial.{Initial}
use Rattle.c_syntax.specs.Types.{object_tree}
use Rattle.c_typing.specs.File.{initials_from}
use Rattle.c_check_functions.proofs.Tables.{given_to}
use Rattle.c_check_functions.proofs.initials.from_table.Given as goal

-- the values of the objects from the last on, and what is left of the table
abbrev pub invariant-each : goal.invariant-each
invariant-each l =
    (vec_len l.left ≤ length l.objects)
    × ((given : List Initial) → ((n : ℕ) → n < length l.objects → get_or l.fn.table.items n None ≡ given_to given n)
    → (reverse l.all.items ≡ initials_from given (vec_len l.left) (map object_tree (drop (vec_len l.left) l.objects)))
    × ((n : ℕ) → n < vec_len l.left → get_or l.left.items n None ≡ given_to given n))

abbrev pub decreases-each : goal.decreases-each
decreases-each l = vec_len l.left
