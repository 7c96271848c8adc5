-- What is left of what a set says when an object ends, begins, or loses its values.
use Rattle.std.specs.Prelude.{ℕ, ◌≡◌, ◌≢◌, ◌⊎◌, List, [], ◌∷◌, ◌<◌}
use Rattle.pointsets.specs.Targets.{BaseSet, killed}
use Rattle.mem_cell_bytes.specs.declared.entry.Entry.{Entry}
use Rattle.mem_cell_bytes.specs.declared.entry.FillByte.{FillByte}
use Rattle.mem_cell_bytes.specs.declared.entry.FillByte.TheVariants as fills
use Rattle.mem_cell_bytes.specs.Stands.{Claims}

-- what may be pointed to once objects have ended one after another
abbrev pub killed_all : BaseSet → List ℕ → BaseSet
killed_all set [] = set
killed_all set (x ∷ xs) = killed_all (killed set (x ∷ [])) xs

-- pointers to the object are dead, and nothing is said of its bytes
pub record AreEnded (k k' : Claims) (x : ℕ) : Type 0 where
  pub pointer : (d : ℕ) (set : BaseSet) → k'.pointer d set → (old : BaseSet) × k.pointer d old × (set ≡ killed old (x ∷ []))
  pub cell : (o : ℕ) (e : Entry) → k'.cell o e → (d : Entry) × k.cell o d × (e ≡ record d { targets = killed d.targets (x ∷ []) }) × (o ≢ x)
  pub byte : (o q : ℕ) (y : FillByte) → k'.byte o q y → k.byte o q y × (o ≢ x)

-- of the bytes of the object it is said that they are all Undef, or nothing
pub record AreBlank (k k' : Claims) (x size : ℕ) : Type 0 where
  pub pointer : (d : ℕ) (set : BaseSet) → k'.pointer d set → k.pointer d set
  pub cell : (o : ℕ) (e : Entry) → k'.cell o e → k.cell o e × (o ≢ x)
  pub byte : (o q : ℕ) (y : FillByte) → k'.byte o q y → (k.byte o q y × (o ≢ x)) ⊎ ((o ≡ x) × (q < size) × (y ≡ fills.Undef))
