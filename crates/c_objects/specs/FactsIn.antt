-- When a fact holds in memory: whatever true numbers are told of cells.
use Rattle.std.specs.Prelude.{◌≡◌, ℤ, List, Option, Some}
use Rattle.c_syntax.specs.declared.alarm.Cell.{Cell}
use Rattle.c_syntax.specs.declared.alarm.Fact.{Fact}
use Rattle.c_syntax.specs.Fact.{FactHolds}
use Rattle.c_syntax.specs.Types.{ObjectTree}
use Rattle.c_syntax.specs.Program.{StructDefTree}
use Rattle.c_values.specs.Places.{ObjectMemory}
use Rattle.c_objects.specs.Cells.{IsCellNumber, cell_spot}

-- each number that is told of a cell is the cell's
abbrev pub TellNumbers : List StructDefTree → List ObjectTree → ObjectMemory → (Cell → Option ℤ) → Type 0
TellNumbers structs objects m number = (cell : Cell) (n : ℤ) → number cell ≡ Some n → IsCellNumber structs objects m cell n

-- the fact holds, whatever is told of cells
abbrev pub HoldsIn : List StructDefTree → List ObjectTree → ObjectMemory → Fact → Type 0
HoldsIn structs objects m fact = (number : Cell → Option ℤ) → TellNumbers structs objects m number → FactHolds objects number (cell_spot m) fact
