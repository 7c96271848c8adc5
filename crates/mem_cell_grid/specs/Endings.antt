-- What is known once objects have ended: pointers to them are dead, and nothing is known of their bytes.
use Rattle.std.specs.Prelude.{◌≡◌, ℕ, List, [], ◌∷◌, Option, Some, map, option_map, slice_get, slice_set}
use Rattle.pointsets.specs.Targets.{BaseSet}
use Rattle.mem_cell_bytes.specs.declared.entry.Entry.{Entry}
use Rattle.mem_cell_bytes.specs.declared.entry.FillByte.{FillByte}
use Rattle.mem_cell_bytes.specs.Ends.{killed_all}
use Rattle.mem_cell_bytes.specs.Contents.{Contents, nothing}
use Rattle.mem_cell_bytes.specs.Stands.{Has, IsInStretch}

abbrev pub killed_entry : List ℕ → Entry → Entry
killed_entry gone e = record e { targets = killed_all e.targets gone }

-- each cell was there, and what it pointed to has ended
abbrev pub AreKilled : List ℕ → List Entry → List Entry → Type 0
AreKilled gone cells left = (e : Entry) → Has left e → (d : Entry) × Has cells d × (e ≡ killed_entry gone d)

pub record IsKilled (gone : List ℕ) (a c : Contents) : Type 0 where
  pub cells : AreKilled gone a.cells c.cells
  pub bytes : (q : ℕ) (x : FillByte) → IsInStretch c.stretches q x → IsInStretch a.stretches q x

abbrev pub AreAllKilled : List ℕ → List Contents → List Contents → Type 0
AreAllKilled gone objects left = (o : ℕ) (c : Contents) → slice_get left o ≡ Some c → (a : Contents) × (slice_get objects o ≡ Some a) × IsKilled gone a c

-- nothing is known of these objects
abbrev pub cleared : List Contents → List ℕ → List Contents
cleared objects [] = objects
cleared objects (x ∷ xs) = cleared (slice_set objects x nothing) xs

-- and of pointers to these objects it is known that they are dead
abbrev pub AreEnded : List ℕ → List Contents → List Contents → Type 0
AreEnded gone objects left = (killed : List Contents) × AreAllKilled gone objects killed × (left ≡ cleared killed gone)

abbrev pub ended_pointers : List ℕ → List (Option BaseSet) → List (Option BaseSet)
ended_pointers gone pointers = map (λ p. option_map (λ set. killed_all set gone) p) pointers
