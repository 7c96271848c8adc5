use Rattle.std.proofs.Common.{◌≡◌, ◌-◌, length, map}
use Rattle.c_typing.specs.World.{Linked}
use Rattle.c_check_names.specs.Trees.{linked_tree}
use Rattle.c_check_names.specs.Worlds.{world_of}
use Rattle.c_check_decls.specs.Entities.{changed}
use Rattle.c_check_decls.proofs.Changing.{changed_from}
use Rattle.c_check_decls.proofs.changes.change_named.Given as goal

-- what is still to be changed makes the whole
abbrev pub invariant-each : goal.invariant-each
invariant-each l =
    (changed_from (λ (e : Linked). e.name) l.name (changed l.change) l.from (map linked_tree l.world.linked)
    ≡ changed_from (λ (e : Linked). e.name) l.name (changed l.change) 0 (map linked_tree l.fn.world.linked))
    × (world_of l.world ≡ record (world_of l.fn.world) { linked = map linked_tree l.world.linked })

abbrev pub decreases-each : goal.decreases-each
decreases-each l = length l.world.linked - l.from
