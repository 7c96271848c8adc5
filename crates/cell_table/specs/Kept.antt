-- How a table of cells is kept: by number, and those in use by place.
use Rattle.std.specs.Prelude.{◌≡◌, ℕ, Bool, List, [], ◌∷◌, Some}
use Rattle.std.specs.BTreeMap.{BTreeMap, get}
use Rattle.c_syntax.specs.declared.alarm.Cell.{Cell}
use Rattle.cell_table.specs.declared.places.Place.{Place}
use Rattle.cell_table.specs.Cells.{Slot, IsInUse, IsTable}
use Rattle.cell_table.specs.Places.{place_cmp}

-- a cell from its object, offset and size
abbrev pub cell_of : ℕ × ℕ × ℕ → Cell
cell_of key = record { object = key.0; offset = key.1; size = key.2 }

-- the cells with their marks
abbrev pub slots_of : List ((ℕ × ℕ × ℕ) × Bool) → List Slot
slots_of [] = []
slots_of (e ∷ es) = record { cell = cell_of e.0; used = e.1 } ∷ slots_of es

-- the places hold the cells in use
pub record IsKept (ss : List Slot) (places : BTreeMap (ℕ × ℕ) Place) : Type 0 where
  pub table : IsTable ss
  pub sound : (o x : ℕ) (p : Place) → get place_cmp places (o, x) ≡ Some p
      → IsInUse ss p.number (record { object = o; offset = x; size = p.size })
  pub whole : (n : ℕ) (c : Cell) → IsInUse ss n c
      → get place_cmp places (c.object, c.offset) ≡ Some (record { number = n; size = c.size })
