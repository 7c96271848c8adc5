-- What two sides say at once, whether the first of them loses nothing by it, and how much less it weighs.
use Rattle.std.specs.Prelude.{◌≡◌, ◌⊎◌, ℕ, ◌+◌, ◌<◌, ◌≤◌, Bool, true, false, List, [], ◌∷◌, ◌++◌, length, slice_get, slice_index_or, Option, Some, None}
use Rattle.pointsets.specs.Targets.{BaseSet, covers_set, joined}
use Rattle.mem_cell_bytes.specs.declared.entry.Entry.{Entry}
use Rattle.mem_cell_bytes.specs.declared.entry.FillByte.{FillByte}
use Rattle.mem_cell_bytes.specs.declared.entry.Stretch.{Stretch}
use Rattle.mem_cell_bytes.specs.Contents.{Contents}
use Rattle.mem_cell_bytes.specs.Joins.{IsWider}
use Rattle.mem_cell_bytes.specs.Stands.{Has, IsInStretch}
use Rattle.mem_cell_bytes.specs.Weights.{contents_weight, covers_entry, entry_weight, joined_entry, stretch_weight, total}
use Rattle.mem_cell_grid.specs.Lefts.{AddsStretch, IsIn}

-- ---- cells

-- a cell of the list has the offset and the type of another
pub record IsAtPlace (cells : List Entry) (e d : Entry) : Type 0 where
  pub has : Has cells d
  pub offset : d.offset ≡ e.offset
  pub ty : d.ty ≡ e.ty

-- the cell is lost, or stands behind others: as it is where it covers the other side's, and else joined with that
abbrev pub IsCellMet : List Entry → Entry → List Entry → List Entry → Bool → Type 0
IsCellMet others e old new kept = ((new ≡ old) × (kept ≡ false))
    ⊎ ((d : Entry) × IsAtPlace others e d × (((kept ≡ true) × (covers_entry e d ≡ true) × (new ≡ old ++ e ∷ []))
    ⊎ ((kept ≡ false) × (covers_entry e d ≡ false) × (new ≡ old ++ joined_entry e d ∷ []))))

pub record AreCellsMet (cells others met : List Entry) (kept : Bool) : Type 0 where
  pub first : (e : Entry) → Has met e → (d : Entry) × Has cells d × IsWider d e
  pub second : (e : Entry) → Has met e → (d : Entry) × Has others d × IsWider d e
  pub less : total entry_weight met ≤ total entry_weight cells
  pub falls : kept ≡ false → total entry_weight met < total entry_weight cells
  pub covers : kept ≡ true → (e : Entry) → Has cells e → (d : Entry) × Has others d × IsWider d e

-- ---- stretches

-- of one stretch and another, from a byte on: nothing is met, or a part of both is, up to the byte from which to go on; it is known whether a byte was passed
-- that is not in the other
pub record IsMetFrom (f g : Stretch) (low : ℕ) (kept : Bool) (old new : List Stretch) (next : ℕ) (keeps : Bool) : Type 0 where
  pub from : ℕ
  pub low_from : low ≤ from
  pub other_from : g.from ≤ from
  pub some : from < next
  pub to : next ≤ f.to
  pub other_to : next ≤ g.to
  pub byte : g.byte ≡ f.byte
  pub adds : AddsStretch old (record { from = from; to = next; byte = f.byte }) new
  pub keeping : keeps ≡ true → (kept ≡ true) × (from ≡ low)
  pub losing : keeps ≡ false → (kept ≡ false) ⊎ (low < from)

abbrev pub IsPartMet : Stretch → Stretch → ℕ → Bool → List Stretch → List Stretch → ℕ → Bool → Type 0
IsPartMet f g low kept old new next keeps = ((new ≡ old) × (next ≡ low) × (keeps ≡ kept)) ⊎ IsMetFrom f g low kept old new next keeps

-- the bytes of a stretch that are in others too stand behind those that were there
pub record IsStretchMet (others : List Stretch) (f : Stretch) (old new : List Stretch) (kept : Bool) : Type 0 where
  pub bytes : (q : ℕ) (x : FillByte) → IsInStretch new q x → IsInStretch old q x ⊎ (IsIn f q x × IsInStretch others q x)
  pub less : total stretch_weight new ≤ total stretch_weight old + stretch_weight f
  pub falls : kept ≡ false → total stretch_weight new < total stretch_weight old + stretch_weight f
  pub covers : kept ≡ true → (q : ℕ) (x : FillByte) → IsIn f q x → IsInStretch others q x

pub record AreStretchesMet (stretches others met : List Stretch) (kept : Bool) : Type 0 where
  pub first : (q : ℕ) (x : FillByte) → IsInStretch met q x → IsInStretch stretches q x
  pub second : (q : ℕ) (x : FillByte) → IsInStretch met q x → IsInStretch others q x
  pub less : total stretch_weight met ≤ total stretch_weight stretches
  pub falls : kept ≡ false → total stretch_weight met < total stretch_weight stretches
  pub covers : kept ≡ true → (q : ℕ) (x : FillByte) → IsInStretch stretches q x → IsInStretch others q x

-- ---- places of lists

-- place by place what both say, where a place that the second side does not have is as this one; where a place loses something, something is lost
pub record AreMet {X : Type 0} (weight : X → ℕ) (none : X) (Met : X → X → X → Bool → Type 0) (xs ys met : List X) (kept : Bool) : Type 0 where
  pub long : length met ≡ length xs
  pub each : (o : ℕ) (a c : X) → slice_get xs o ≡ Some a → slice_get met o ≡ Some c → (b : Bool) × Met a (slice_index_or ys o none) c b × (kept ≡ true → b ≡ true)
  pub less : total weight met ≤ total weight xs
  pub falls : kept ≡ false → total weight met < total weight xs

-- what is known of one object
pub record AreContentsMet (a b c : Contents) (kept : Bool) : Type 0 where
  pub cell_first : (e : Entry) → Has c.cells e → (d : Entry) × Has a.cells d × IsWider d e
  pub cell_second : (e : Entry) → Has c.cells e → (d : Entry) × Has b.cells d × IsWider d e
  pub byte_first : (q : ℕ) (x : FillByte) → IsInStretch c.stretches q x → IsInStretch a.stretches q x
  pub byte_second : (q : ℕ) (x : FillByte) → IsInStretch c.stretches q x → IsInStretch b.stretches q x
  pub less : contents_weight c ≤ contents_weight a
  pub falls : kept ≡ false → contents_weight c < contents_weight a
  pub cells_covered : kept ≡ true → (e : Entry) → Has a.cells e → (d : Entry) × Has b.cells d × IsWider d e
  pub bytes_covered : kept ≡ true → (q : ℕ) (x : FillByte) → IsInStretch a.stretches q x → IsInStretch b.stretches q x

-- what a temporary may point to, where it is known
abbrev pub IsPointerMet : Option BaseSet → Option BaseSet → Option BaseSet → Bool → Type 0
IsPointerMet None b c kept = (c ≡ None) × (kept ≡ true)
IsPointerMet (Some s) None c kept = (c ≡ None) × (kept ≡ false)
IsPointerMet (Some s) (Some t) c kept = ((kept ≡ true) × (covers_set s t ≡ true) × (c ≡ Some s)) ⊎ ((kept ≡ false) × (covers_set s t ≡ false) × (c ≡ Some (joined s t)))
