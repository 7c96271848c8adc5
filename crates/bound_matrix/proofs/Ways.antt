-- What an arc, and what halves, add to bounds: `L i j x` says that V(j) - V(i) is at most x.
use Rattle.std.specs.Prelude.{ℕ, ℤ, pos, ◌+ℤ◌, ◌≤ℤ◌}

-- a bound may be weakened
pub record Up (L : ℕ → ℕ → ℤ → Type 0) : Type 0 where
  pub up : (i j : ℕ) (x y : ℤ) → L i j x → x ≤ℤ y → L i j y

-- L, and what the arc from a to b of weight c adds
pub data Added (L : ℕ → ℕ → ℤ → Type 0) (a b : ℕ) (c : ℤ) (i j : ℕ) (x : ℤ) : Type 0 where
  old : L i j x → Added L a b c i j x
  via : (y z : ℤ) → L i a y → L b j z → ((y +ℤ c) +ℤ z) ≤ℤ x → Added L a b c i j x

-- the half of the bound from i to bar i, rounded down, is at most h
abbrev pub Half : (ℕ → ℕ) → (ℕ → ℕ → ℤ → Type 0) → ℕ → ℤ → Type 0
Half bar L i h = L i (bar i) ((h +ℤ h) +ℤ pos 1)

-- L, and what the sums of halves add
pub data Halved (bar : ℕ → ℕ) (L : ℕ → ℕ → ℤ → Type 0) (i j : ℕ) (x : ℤ) : Type 0 where
  whole : L i j x → Halved bar L i j x
  halves : (h g : ℤ) → Half bar L i h → Half bar L (bar j) g → (h +ℤ g) ≤ℤ x → Halved bar L i j x

-- the halves from an index and from its partner clash nowhere
pub record NoClash (bar : ℕ → ℕ) (L : ℕ → ℕ → ℤ → Type 0) : Type 0 where
  pub apart : (i : ℕ) (h g : ℤ) → Half bar L i h → Half bar L (bar i) g → pos 0 ≤ℤ (h +ℤ g)
