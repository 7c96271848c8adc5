-- Memory of a program's objects.
use Rattle.std.specs.Prelude.{◌≡◌, List, length}
use Rattle.c_syntax.specs.Types.{ObjectTree}
use Rattle.c_values.specs.Places.{ObjectMemory}
use Rattle.c_objects.specs.Kept.{AllFit}

-- each object may have a place, and each block has the size and the mark of its object
pub record Belongs (objects : List ObjectTree) (m : ObjectMemory) : Type 0 where
  pub owned : length m.owners ≡ length m.blocks
  pub counted : length m.places ≡ length objects
  pub fits : AllFit objects m

-- memory of some program's objects
abbrev pub HasObjects : ObjectMemory → Type 0
HasObjects m = (objects : List ObjectTree) × Belongs objects m

-- what changes memory leaves it one of these objects
abbrev pub Keeps : ObjectMemory → ObjectMemory → Type 0
Keeps old new = (objects : List ObjectTree) → Belongs objects old → Belongs objects new
