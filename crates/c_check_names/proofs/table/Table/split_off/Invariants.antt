use Rattle.std.proofs.Common.{◌≡◌, ◌≤◌, ◌++◌, length, map}
use Rattle.std.specs.Prelude.{min, reverse}
use Rattle.c_check_names.proofs.table.Table.split_off.Given as goal

abbrev pub invariant-behind : goal.invariant-behind
invariant-behind g l = (l.self-inside.index ≡ map g.T.Named.name_of l.self-inside.items.items)
    × (l.self-inside.items.items ++ reverse l.taken.items ≡ l.fn.self)
    × (min l.count (length l.fn.self) ≤ length l.self-inside.items.items)

abbrev pub decreases-behind : goal.decreases-behind
decreases-behind g l = length l.self-inside.items.items
