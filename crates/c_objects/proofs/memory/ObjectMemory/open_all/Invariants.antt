use Rattle.std.proofs.Common.{◌≡◌, length, drop, map}
use Rattle.c_syntax.specs.Types.{object_tree}
use Rattle.c_objects.specs.Opening as opening
use Rattle.c_objects.proofs.memory.ObjectMemory.open_all.Given as goal

abbrev pub invariant-loop-object : goal.invariant-loop-object
invariant-loop-object l =
    (opening.open_all (map object_tree l.objects) l.self (drop l.object-index l.opened) ≡ opening.open_all (map object_tree l.objects) l.initial.self l.opened)
    × (length l.self.places ≡ length l.initial.self.places)
