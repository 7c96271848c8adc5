-- What is known of one object once some of its bytes are stored.
use Rattle.std.specs.Prelude.{◌≡◌, ◌⊎◌, ℕ, ◌+◌, ◌<◌, ◌≤◌, List}
use Rattle.mem_cell_bytes.specs.declared.entry.Entry.{Entry}
use Rattle.mem_cell_bytes.specs.declared.entry.FillByte.{FillByte}
use Rattle.mem_cell_bytes.specs.declared.entry.Stretch.{Stretch}
use Rattle.mem_cell_bytes.specs.Cells.{size_of}
use Rattle.mem_cell_bytes.specs.Stands.{Has, IsInStretch}
use Rattle.mem_cell_bytes.specs.Stores.{AreBeside}
use Rattle.mem_cell_bytes.specs.Weights.{stretch_weight, total}

-- byte q is in the stretch, of bytes x
abbrev pub IsIn : Stretch → ℕ → FillByte → Type 0
IsIn f q x = (f.from ≤ q) × (q < f.to) × (f.byte ≡ x)

-- the bytes of one stretch more are in stretches, which weigh more by it
pub record AddsStretch (old : List Stretch) (f : Stretch) (new : List Stretch) : Type 0 where
  pub bytes : (q : ℕ) (x : FillByte) → IsInStretch new q x → IsInStretch old q x ⊎ IsIn f q x
  pub weight : total stretch_weight new ≡ total stretch_weight old + stretch_weight f

-- the bytes of a stretch beside n bytes from `at` on are in stretches
abbrev pub IsEndsOf : List Stretch → Stretch → ℕ → ℕ → List Stretch → Type 0
IsEndsOf old f at n new = (q : ℕ) (x : FillByte) → IsInStretch new q x → IsInStretch old q x ⊎ (IsIn f q x × ((q < at) ⊎ (at + n ≤ q)))

-- each cell is the one that was stored, or was there, beside it
abbrev pub AreStored : List Entry → Entry → List Entry → Type 0
AreStored cells cell stored = (e : Entry) → Has stored e → (Has cells e × AreBeside e.offset (size_of e) cell.offset (size_of cell)) ⊎ (e ≡ cell)
