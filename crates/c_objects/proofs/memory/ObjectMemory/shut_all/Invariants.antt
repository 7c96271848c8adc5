use Rattle.std.proofs.Common.{◌≡◌, length, drop}
use Rattle.c_objects.specs.Opening as opening
use Rattle.c_objects.proofs.memory.ObjectMemory.shut_all.Given as goal

abbrev pub invariant-loop-object : goal.invariant-loop-object
invariant-loop-object l =
    (opening.shut_all l.self (drop l.object-index l.shut) ≡ opening.shut_all l.initial.self l.shut)
    × (length l.self.places ≡ length l.initial.self.places)
