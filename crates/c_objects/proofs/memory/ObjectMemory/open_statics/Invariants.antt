use Rattle.std.proofs.Common.{◌≡◌, length, drop, map}
use Rattle.c_syntax.specs.Types.{object_tree}
use Rattle.c_objects.specs.Statics as statics
use Rattle.c_objects.proofs.memory.ObjectMemory.open_statics.Given as goal

abbrev pub invariant-loop-number : goal.invariant-loop-number
invariant-loop-number l =
    (statics.open_statics (map object_tree l.objects) (map object_tree (drop l.number l.objects)) l.number l.self
    ≡ statics.open_statics (map object_tree l.objects) (map object_tree l.objects) 0 l.initial.self)
    × (length l.self.places ≡ length l.initial.self.places)
