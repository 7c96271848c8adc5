use Rattle.std.proofs.Common.{◌≡◌, drop, take}
use Rattle.std.specs.Prelude.{All}
use Rattle.c_objects.specs.Statics as statics
use Rattle.c_objects.specs.Statics.{FitInitials, HasBitsIn}
use Rattle.c_objects.proofs.memory.ObjectMemory.put_initials.Given as goal

abbrev pub invariant-loop-initial : goal.invariant-loop-initial
invariant-loop-initial l =
    (statics.with_initials l.self (drop l.initial-index l.initials) ≡ statics.with_initials l.initial.self l.initials)
    × FitInitials l.self l.initials
    × ((l.self.places ≡ l.initial.self.places) × All (HasBitsIn l.initial.self) (take l.initial-index l.initials))
