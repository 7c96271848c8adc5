-- Bounds of differences of signed variables (Miné's octagons). Variable k stands as two indices: V(2k) = v(k) and V(2k + 1) = - v(k). The bound of i and j is
-- one of V(j) - V(i), and so also of V(bar i) - V(bar j): such a pair of mirrored bounds is kept once.
use Rattle.std.specs.Prelude.{ℕ, zero, suc, pos, neg_ℤ, ◌≡◌, ◌≤◌, ◌+◌, ◌-◌, ◌*◌, ◌%◌, ◌^◌, ◌≤ℤ◌, ◌&&◌, if◌then◌else◌, List, length, slice_index_or, nat_lt, nat_eq}
use Rattle.std.specs.Int.{int_max}
use Rattle.std.specs.Int.RustNames.{int_le}
use Rattle.ext_int.specs.Ext.{lesser, greater}
use Rattle.ext_int.specs.declared.Ext.{Ext}
use Rattle.ext_int.specs.declared.Ext.TheVariants.{Low, Fin, High}

-- the index that stands for the same variable with the other sign
abbrev pub bar : ℕ → ℕ
bar i = if nat_eq (i % 2) 0 then i + 1 else i - 1

-- how many columns of row i are kept: of two mirrored places exactly one lies below this, but for those that mirror themselves
abbrev pub reach : ℕ → ℕ
reach i = if nat_eq (i % 2) 0 then i + 2 else i

-- how many places the rows before this one have: each has one for every column up to its own pair of signs
unfoldable pub row_start : ℕ → ℕ
row_start zero = 0
row_start (suc i) = row_start i + (i + 2 - i % 2)

-- where the bound of i and j is kept
unfoldable pub place : ℕ → ℕ → ℕ
place i j = if nat_lt j (reach i) then row_start i + j else row_start (bar j) + bar i

-- the bound of i and j among those that are kept for so many variables: none past the last index
unfoldable pub entry : ℕ → List Ext → ℕ → ℕ → Ext
entry vars kept i j = if nat_lt i (vars + vars) && nat_lt j (vars + vars) then slice_index_or kept (place i j) Low else High

-- a matrix as its users see it: how many variables it has, and the bounds that it keeps
pub record MatrixView : Type 0 where
  pub vars : ℕ
  pub kept : List Ext

-- the bound of V(j) - V(i)
abbrev pub bound_at : MatrixView → ℕ → ℕ → Ext
bound_at m i j = entry m.vars m.kept i j

-- the bounds that a matrix may have: none, or a number of at most 2^100 in size
abbrev pub InRange : Ext → Type 0
InRange Low = ⊥
InRange (Fin w) = (w ≤ℤ pos (2 ^ 100)) × (neg_ℤ (pos (2 ^ 100)) ≤ℤ w)
InRange High = Unit {0}

-- every bound is one that a matrix may have
pub record AllInRange (m : ℕ → ℕ → Ext) : Type 0 where
  pub range : (i j : ℕ) → InRange (m i j)

-- the list keeps the bounds of so many variables
pub record IsKept (vars : ℕ) (kept : List Ext) : Type 0 where
  pub few : vars ≤ 24
  pub size : length kept ≡ 2 * vars * (vars + 1)
  pub range : AllInRange (entry vars kept)

-- a new bound as a matrix takes it: above 2^100 it says nothing, and below -2^100 it is raised to that
abbrev pub cut : Ext → Ext
cut Low = Fin (neg_ℤ (pos (2 ^ 100)))
cut (Fin x) = if int_le x (pos (2 ^ 100)) then Fin (int_max x (neg_ℤ (pos (2 ^ 100)))) else High
cut High = High

-- after is before with the bound of i and j, and its mirror image, lowered to the new bound; every other bound is as it was
pub record LowersTo (i j : ℕ) (new : Ext) (before after : ℕ → ℕ → Ext) : Type 0 where
  pub here : after i j ≡ lesser (before i j) (cut new)
  pub mirror : after (bar j) (bar i) ≡ lesser (before i j) (cut new)
  pub others : (p q : ℕ) → (p ≡ i → q ≡ j → ⊥) → (p ≡ bar j → q ≡ bar i → ⊥) → after p q ≡ before p q

-- after is before with the bound of i and j, and its mirror image, raised to the new bound; every other bound is as it was
pub record RaisesTo (i j : ℕ) (new : Ext) (before after : ℕ → ℕ → Ext) : Type 0 where
  pub here : after i j ≡ greater (before i j) (cut new)
  pub mirror : after (bar j) (bar i) ≡ greater (before i j) (cut new)
  pub others : (p q : ℕ) → (p ≡ i → q ≡ j → ⊥) → (p ≡ bar j → q ≡ bar i → ⊥) → after p q ≡ before p q
