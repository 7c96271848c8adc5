use Rattle.std.proofs.Common.{List, take}
use Rattle.c_syntax.specs.Types.{ObjectTree}
use Rattle.c_objects.specs.Statics.{with_initials}
use Rattle.c_values.specs.Places.{ObjectMemory}
use Rattle.mem_cell_domain.specs.Starts.{AreBytesOf, AreLong, ArePlaces}
use Rattle.mem_cell_domain.proofs.initial.put_initials.Given as goal

abbrev pub invariant-loop-initial : goal.invariant-loop-initial
invariant-loop-initial l = (objects : List ObjectTree) (m : ObjectMemory) → ArePlaces objects m → AreLong objects l.initials → AreBytesOf l.initial.grid m
    → AreBytesOf l.grid (with_initials m (take l.initial-index l.initials))
