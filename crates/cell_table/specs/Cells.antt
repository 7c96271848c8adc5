-- Cells by number, and which of them are in use.
use Rattle.std.specs.Prelude.{◌≡◌, ◌≢◌, ℕ, zero, suc, ◌+◌, ◌^◌, ◌<◌, ◌≤◌, ◌==◌, ◌&&◌, ◌↔◌, Bool, true, false, List, [], ◌∷◌, ◌++◌, Option, None, Some, slice_get, Contains, if◌then◌else◌}
use Rattle.c_syntax.specs.declared.alarm.Cell.{Cell}

-- a cell that has a number, and whether it is in use
pub record Slot : Type 0 where
  pub cell : Cell
  pub used : Bool

-- the cells in the order of their numbers
pub record Table : Type 0 where
  pub slots : List Slot

-- two cells are the same bytes
abbrev pub same_cell : Cell → Cell → Bool
same_cell c d = ((c.object == d.object) && (c.offset == d.offset)) && (c.size == d.size)

-- the cell with this number
abbrev pub cell_at : List Slot → ℕ → Option Cell
cell_at [] n = None
cell_at (s ∷ ss) zero = Some s.cell
cell_at (s ∷ ss) (suc n) = cell_at ss n

-- whether the cell with this number is in use
abbrev pub used_at : List Slot → ℕ → Option Bool
used_at [] n = None
used_at (s ∷ ss) zero = Some s.used
used_at (s ∷ ss) (suc n) = used_at ss n

-- the number of a cell: that of its first use, or the next one
abbrev pub number_of : List Slot → Cell → ℕ
number_of [] c = 0
number_of (s ∷ ss) c = (if same_cell c s.cell then 0 else suc (number_of ss c))

-- the cells after this one comes into use: a new one has the last number
abbrev pub in_use_with : List Slot → Cell → List Slot
in_use_with [] c = record { cell = c; used = true } ∷ []
in_use_with (s ∷ ss) c =
    (if same_cell c s.cell then record s { used = true } ∷ ss else s ∷ in_use_with ss c)

-- the cells after the one with this number goes out of use
abbrev pub in_use_without : List Slot → ℕ → List Slot
in_use_without [] n = []
in_use_without (s ∷ ss) zero = record s { used = false } ∷ ss
in_use_without (s ∷ ss) (suc n) = s ∷ in_use_without ss n

-- the cells after all of these come into use, in turn
abbrev pub in_use_with_all : List Slot → List Cell → List Slot
in_use_with_all ss [] = ss
in_use_with_all ss (c ∷ cs) = in_use_with_all (in_use_with ss c) cs

-- the numbers that cells get that come into use in turn
abbrev pub numbers_of : List Slot → List Cell → List ℕ
numbers_of ss [] = []
numbers_of ss (c ∷ cs) = number_of ss c ∷ numbers_of (in_use_with ss c) cs

-- the one-byte cells of this many bytes of an object from an offset on
abbrev pub byte_cells : ℕ → ℕ → ℕ → List Cell
byte_cells object offset zero = []
byte_cells object offset (suc n) =
    record { object = object; offset = offset; size = 1 } ∷ byte_cells object (suc offset) n

-- the byte of the object is one of the cell
pub record HasByte (c : Cell) (object byte : ℕ) : Type 0 where
  pub same : c.object ≡ object
  pub low : c.offset ≤ byte
  pub high : byte < c.offset + c.size

-- a cell with this number is in use
pub record IsInUse (ss : List Slot) (n : ℕ) (c : Cell) : Type 0 where
  pub cell : cell_at ss n ≡ Some c
  pub used : used_at ss n ≡ Some true

-- the number in place i of the list is that of the cell, which is in use
abbrev pub HasNumberInUse : List Slot → List ℕ → ℕ → Cell → Type 0
HasNumberInUse ss ns i c = (m : ℕ) × (slice_get ns i ≡ Some m) × IsInUse ss m c

-- no cell in use but this one itself shares a byte with it
pub record IsApartFrom (ss : List Slot) (c : Cell) : Type 0 where
  pub none : (n : ℕ) (d : Cell) → IsInUse ss n d → d ≢ c
      → (o b : ℕ) → HasByte c o b → HasByte d o b → ⊥

-- what every table keeps: a cell has one number and some bytes, and no two in use share a byte
pub record IsTable (ss : List Slot) : Type 0 where
  pub one_number : (m n : ℕ) (c : Cell) → cell_at ss m ≡ Some c → cell_at ss n ≡ Some c → m ≡ n
  pub some_bytes : (n : ℕ) (c : Cell) → cell_at ss n ≡ Some c → 1 ≤ c.size
  pub ends : (n : ℕ) (c : Cell) → cell_at ss n ≡ Some c → c.offset + c.size < 2 ^ 64
  pub apart : (m n : ℕ) (c d : Cell) → IsInUse ss m c → IsInUse ss n d → m ≢ n
      → (o b : ℕ) → HasByte c o b → HasByte d o b → ⊥

-- a cell in use has a byte of the object from one place up to before another
pub record Overlaps (ss : List Slot) (object from to n : ℕ) : Type 0 where
  pub cell : Cell
  pub in_use : IsInUse ss n cell
  pub byte : ℕ
  pub has : HasByte cell object byte
  pub low : from ≤ byte
  pub high : byte < to

-- these are the cells in use that share a byte with a part of an object, by rising offset
pub record AreOverlapping (ss : List Slot) (object from to : ℕ) (ns : List ℕ) : Type 0 where
  pub each : (n : ℕ) → Contains ns n ↔ Overlaps ss object from to n
  pub by_offset : (i j m n : ℕ) (c d : Cell) → i < j → slice_get ns i ≡ Some m → slice_get ns j ≡ Some n
      → cell_at ss m ≡ Some c → cell_at ss n ≡ Some d → c.offset < d.offset

-- such numbers are put at the end of a list
pub record AppendsOverlapping (ss : List Slot) (object from to : ℕ) (old new : List ℕ) : Type 0 where
  pub numbers : List ℕ
  pub appended : new ≡ old ++ numbers
  pub are : AreOverlapping ss object from to numbers
