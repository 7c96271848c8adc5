use Rattle.std.proofs.Common.{ap, ◌∙◌, length, length-set, List}
use Rattle.block_mem.specs.Block.{BlockView}
use Rattle.c_values.specs.Places.{ObjectMemory}
use Rattle.c_objects.proofs.Found.{kept_count}
use Rattle.c_objects.proofs.memory.ObjectMemory.store_to.Goals as goal
use Rattle.c_objects.proofs.memory.ObjectMemory.store_to.Goals.{in-Ok, in-Err}

pub invariant_of-self : goal.invariant_of-self
invariant_of-self c =
    let m : ObjectMemory = record { blocks = c.self.inside.blocks; owners = c.self.inside.owners.items; places = c.self.inside.places.items } in
    elim c.match-store.branch [
      | in-Ok w ↦ kept_count m c.store.new.self (ap (λ (bs : List BlockView). length bs) w.in-Ok.ensures.ok ∙ length-set _ _ _) c.self.invariant
      | in-Err w ↦ kept_count m c.store.new.self (ap (λ (bs : List BlockView). length bs) w.in-Err.ensures.err) c.self.invariant
    ]
