use Rattle.std.proofs.Common.{◌≡◌, ◌≤◌, length, take, map}
use Rattle.std.specs.Prelude.{min}
use Rattle.c_check_names.proofs.table.Table.truncate.Given as goal

abbrev pub invariant-loop-self : goal.invariant-loop-self
invariant-loop-self g l = (l.self-inside.index ≡ map g.T.Named.name_of l.self-inside.items.items)
    × (l.self-inside.items.items ≡ take (length l.self-inside.items.items) l.fn.self)
    × (min l.count (length l.fn.self) ≤ length l.self-inside.items.items)

abbrev pub decreases-loop-self : goal.decreases-loop-self
decreases-loop-self g l = length l.self-inside.items.items
