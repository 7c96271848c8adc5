-- The integer points of a matrix of bounds, and when it is tightly closed (Miné; Bagnara, Hill and Zaffanella).
use Rattle.std.specs.Prelude.{ℕ, ℤ, pos, neg_ℤ, ◌≡◌, ◌<◌, ◌+◌, ◌/◌, ◌%◌, ◌^◌, ◌+ℤ◌, ◌≤ℤ◌, List, if◌then◌else◌, nat_eq}
use Rattle.ext_int.specs.Ext.{Above}
use Rattle.ext_int.specs.Valuation.{value_at}
use Rattle.ext_int.specs.declared.Ext.{Ext}
use Rattle.ext_int.specs.declared.Ext.TheVariants.{Low, Fin, High}
use Rattle.bound_matrix.specs.Bound.{MatrixView, bound_at, bar, LowersTo}

-- the number that an index stands for: of an even one its variable's, of an odd one its variable's negated
unfoldable pub signed : List ℤ → ℕ → ℤ
signed v p = if nat_eq (p % 2) 0 then value_at v (p / 2) else neg_ℤ (value_at v (p / 2))

-- the numbers of the indices meet each bound
pub record Meets (v : ℕ → ℤ) (m : ℕ → ℕ → Ext) : Type 0 where
  pub meets : (i j : ℕ) → Above (m i j) (v j +ℤ neg_ℤ (v i))

-- the valuation is an integer point of the matrix: it meets all its bounds
abbrev pub IsPoint : List ℤ → MatrixView → Type 0
IsPoint v m = Meets (signed v) (bound_at m)

-- the bound is a number, and at most x
abbrev pub IsUpTo : Ext → ℤ → Type 0
IsUpTo Low x = ⊥
IsUpTo (Fin w) x = w ≤ℤ x
IsUpTo High x = ⊥

-- at most 2^90 in size
abbrev pub IsSmallNumber : ℤ → Type 0
IsSmallNumber x = (x ≤ℤ pos (2 ^ 90)) × (neg_ℤ (pos (2 ^ 90)) ≤ℤ x)

-- every finite bound is at most 2^90 in size
pub record IsSmall (m : ℕ → ℕ → Ext) : Type 0 where
  pub small : (i j : ℕ) (x : ℤ) → m i j ≡ Fin x → IsSmallNumber x

-- tightly closed over n indices: coherent, 0 from each index to itself, no bound above the sum of two on a way between its ends, each finite bound between
-- the two signs of a variable even, and no bound above half of the sum of those of its two ends
pub record IsTight (n : ℕ) (m : ℕ → ℕ → Ext) : Type 0 where
  pub coherent : (i j : ℕ) → m (bar j) (bar i) ≡ m i j
  pub zero : (i : ℕ) → i < n → m i i ≡ Fin (pos 0)
  pub triangle : (i j k : ℕ) (x y : ℤ) → m i k ≡ Fin x → m k j ≡ Fin y → IsUpTo (m i j) (x +ℤ y)
  pub even : (i : ℕ) (x : ℤ) → m i (bar i) ≡ Fin x → (h : ℤ) × (x ≡ h +ℤ h)
  pub strong : (i j : ℕ) (h g : ℤ) → m i (bar i) ≡ Fin (h +ℤ h) → m (bar j) j ≡ Fin (g +ℤ g) → IsUpTo (m i j) (h +ℤ g)

-- the matrix is what lowering one bound made of a tightly closed one
pub record WasTight (i j : ℕ) (m : MatrixView) : Type 0 where
  pub before : MatrixView
  pub new : Ext
  pub tight : IsTight (m.vars + m.vars) (bound_at before)
  pub lowered : LowersTo i j new (bound_at before) (bound_at m)
