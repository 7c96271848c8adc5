-- How much a set can still forget.
use Rattle.std.specs.Prelude.{ℕ, ◌+◌, ◌-◌, Bool, ◌||◌, ◌&&◌, not, List, [], ◌∷◌, Option, Some, None}
use Rattle.pointsets.specs.Targets.{BaseSet, set_weight, room_of, joined, covers_set}
use Rattle.mem_cell_bytes.specs.declared.entry.Entry.{Entry}
use Rattle.mem_cell_bytes.specs.declared.entry.Stretch.{Stretch}
use Rattle.mem_cell_bytes.specs.Contents.{Contents}

abbrev pub total : {X : Type 0} → (X → ℕ) → List X → ℕ
total w [] = 0
total w (x ∷ xs) = w x + total w xs

abbrev pub entry_weight : Entry → ℕ
entry_weight e = 1 + (room_of e.undef + (room_of e.value + set_weight e.targets))

-- a stretch counts its bytes
abbrev pub stretch_weight : Stretch → ℕ
stretch_weight f = f.to - f.from

abbrev pub contents_weight : Contents → ℕ
contents_weight c = total entry_weight c.cells + total stretch_weight c.stretches

abbrev pub pointer_weight : Option BaseSet → ℕ
pointer_weight None = 0
pointer_weight (Some set) = 1 + set_weight set

abbrev pub joined_entry : Entry → Entry → Entry
joined_entry e d = record e { undef = e.undef || d.undef; value = e.value || d.value; targets = joined e.targets d.targets }

abbrev pub covers_entry : Entry → Entry → Bool
covers_entry e d = (e.undef || not d.undef) && ((e.value || not d.value) && covers_set e.targets d.targets)
