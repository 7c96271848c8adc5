-- Bounds as relations of numbers, and sums of bounds.
use Rattle.std.specs.Prelude.{ℕ, ℤ, pos, ◌≡◌, ◌^◌, ◌+ℤ◌, ◌≤ℤ◌, neg_ℤ}
use Rattle.ext_int.specs.declared.Ext.{Ext}
use Rattle.ext_int.specs.declared.Ext.TheVariants.{Low, Fin, High}
use Rattle.bound_matrix.specs.Points.{IsUpTo}

-- the bounds of which any sum of two is exact
abbrev pub Near : Ext → Type 0
Near Low = ⊥
Near (Fin w) = (w ≤ℤ pos (2 ^ 99)) × (neg_ℤ (pos (2 ^ 99)) ≤ℤ w)
Near High = Unit {0}

-- a matrix read as a relation: it bounds V(j) - V(i) by x
abbrev pub Bounds : (ℕ → ℕ → Ext) → ℕ → ℕ → ℤ → Type 0
Bounds m i j x = IsUpTo (m i j) x

-- f is the lesser of e and the sum of a and b
pub data Relaxed (a b e f : Ext) : Type 0 where
  kept : f ≡ e → ((y z : ℤ) → IsUpTo a y → IsUpTo b z → IsUpTo e (y +ℤ z)) → Relaxed a b e f
  better : (y z : ℤ) → a ≡ Fin y → b ≡ Fin z → f ≡ Fin (y +ℤ z) → (IsUpTo e (y +ℤ z) → ⊥) → Relaxed a b e f

-- the bound of i and j was relaxed by the way through k
abbrev pub Staged : (m n : ℕ → ℕ → Ext) (k i j : ℕ) → Type 0
Staged m n k i j = Relaxed (m i k) (m k j) (m i j) (n i j)
