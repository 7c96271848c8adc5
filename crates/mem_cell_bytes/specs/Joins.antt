-- Sets that say no more than others.
use Rattle.std.specs.Prelude.{◌≡◌, ℕ, true}
use Rattle.pointsets.specs.declared.Base.{Base}
use Rattle.pointsets.specs.Targets.{BaseSet, has_base}
use Rattle.mem_cell_bytes.specs.declared.entry.Entry.{Entry}
use Rattle.mem_cell_bytes.specs.declared.entry.FillByte.{FillByte}
use Rattle.mem_cell_bytes.specs.Stands.{Claims}

abbrev pub IsWiderSet : BaseSet → BaseSet → Type 0
IsWiderSet s t = (b : Base) → has_base s b ≡ true → has_base t b ≡ true

-- e is the cell of d, and allows all that d does
pub record IsWider (d e : Entry) : Type 0 where
  pub offset : e.offset ≡ d.offset
  pub ty : e.ty ≡ d.ty
  pub undef : d.undef ≡ true → e.undef ≡ true
  pub value : d.value ≡ true → e.value ≡ true
  pub targets : IsWiderSet d.targets e.targets

-- all that the second says follows from something that the first says
pub record SaysLess (k k' : Claims) : Type 0 where
  pub pointer : (d : ℕ) (set : BaseSet) → k'.pointer d set → (old : BaseSet) × k.pointer d old × IsWiderSet old set
  pub cell : (o : ℕ) (e : Entry) → k'.cell o e → (d : Entry) × k.cell o d × IsWider d e
  pub byte : (o q : ℕ) (x : FillByte) → k'.byte o q x → k.byte o q x
