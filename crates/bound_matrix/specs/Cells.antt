-- A whole matrix of at most 48 rows of 48 cells, in which bounds are closed, and what the passes over it do.
use Rattle.std.specs.Prelude.{ℕ, ℤ, ◌≡◌, ◌<◌, ◌≤◌, ◌+◌, ◌*◌, ◌%◌, ◌+ℤ◌, ◌≤ℤ◌, pos, neg_ℤ, List, length, slice_index, slice_index_or, nat_lt, ◌&&◌, if◌then◌else◌}
use Rattle.ext_int.specs.Ext.{Above}
use Rattle.ext_int.specs.declared.Ext.{Ext}
use Rattle.ext_int.specs.declared.Ext.TheVariants.{Low, Fin, High}
use Rattle.bound_matrix.specs.Bound.{bar, reach, InRange, AllInRange, LowersTo}
use Rattle.bound_matrix.specs.Points.{IsUpTo, Meets}
use Rattle.bound_matrix.specs.Rel.{Through, Within, NotBelowZero, Mirrored}
use Rattle.bound_matrix.specs.Entry.{Near, Bounds, Staged, Relaxed}

-- the bound of i and j
unfoldable pub cell : ℕ → List Ext → ℕ → ℕ → Ext
cell n s i j = if nat_lt i n && nat_lt j n then slice_index_or s (i * 48 + j) Low else High

-- the list has a place for each cell
pub record IsTable (n : ℕ) (s : List Ext) : Type 0 where
  pub size : length s ≡ 2304
  pub few : n ≤ 48

-- all is the same but at i and j
pub record SameBut (i j : ℕ) (m k : ℕ → ℕ → Ext) : Type 0 where
  pub other_row : (p q : ℕ) → (p ≡ i → ⊥) → k p q ≡ m p q
  pub other_place : (p q : ℕ) → (q ≡ j → ⊥) → k p q ≡ m p q

-- the bounds into and out of k have exact sums
pub record NearAt (m : ℕ → ℕ → Ext) (k : ℕ) : Type 0 where
  pub near_in : (i : ℕ) → Near (m i k)
  pub near_out : (j : ℕ) → Near (m k j)

-- no bound was raised
pub record Lowered (m w : ℕ → ℕ → Ext) : Type 0 where
  pub lower : (i j : ℕ) (x : ℤ) → IsUpTo (m i j) x → IsUpTo (w i j) x

-- the row of i is relaxed through k, and the others are as they were
pub record RowStaged (n k i : ℕ) (m w : ℕ → ℕ → Ext) : Type 0 where
  pub here : (q : ℕ) → q < n → Staged m w k i q
  pub others : (p q : ℕ) → (p ≡ i → ⊥) → w p q ≡ m p q

-- the bound from k to itself is not below zero
pub record PivotUp (m : ℕ → ℕ → Ext) (k : ℕ) : Type 0 where
  pub pivot_up : (x : ℤ) → IsUpTo (m k k) x → pos 0 ≤ℤ x

-- bounds compose through each pivot below n, and none says more than 0 of an index and itself
pub record IsClosed (n : ℕ) (m : ℕ → ℕ → Ext) : Type 0 where
  pub zero : (i : ℕ) → i < n → IsUpTo (m i i) (pos 0)
  pub through : (a : ℕ) → a < n → Through (Bounds m) a

-- w has no bound that does not follow from those of m
pub record IsLeast (n : ℕ) (m w : ℕ → ℕ → Ext) : Type 0 where
  pub least : (c : ℕ → ℕ → Ext) → IsClosed n c → Within (Bounds m) (Bounds c) → Within (Bounds w) (Bounds c)

-- f is half of e, rounded down
pub record IsHalf (e f : Ext) : Type 0 where
  pub half_into : (h : ℤ) → IsUpTo f h → IsUpTo e ((h +ℤ h) +ℤ pos 1)
  pub half_from : (h : ℤ) → IsUpTo e ((h +ℤ h) +ℤ pos 1) → IsUpTo f h

-- mirrored bounds are equal
pub record IsMirrored (n : ℕ) (m : ℕ → ℕ → Ext) : Type 0 where
  pub mirrored : (i j : ℕ) → m (bar j) (bar i) ≡ m i j

-- tightly closed, said of the numbers that the bounds allow
pub record IsTightly (n : ℕ) (m : ℕ → ℕ → Ext) : Type 0 where
  pub coherent : (i j : ℕ) → m (bar j) (bar i) ≡ m i j
  pub zero : (i : ℕ) → i < n → m i i ≡ Fin (pos 0)
  pub triangle : (i j k : ℕ) (x y : ℤ) → IsUpTo (m i k) x → IsUpTo (m k j) y → IsUpTo (m i j) (x +ℤ y)
  pub even : (i : ℕ) (h : ℤ) → IsUpTo (m i (bar i)) ((h +ℤ h) +ℤ pos 1) → IsUpTo (m i (bar i)) (h +ℤ h)
  pub strong : (i j : ℕ) (h g : ℤ) → IsUpTo (m i (bar i)) ((h +ℤ h) +ℤ pos 1) → IsUpTo (m (bar j) j) ((g +ℤ g) +ℤ pos 1) → IsUpTo (m i j) (h +ℤ g)

-- the half that stands at p
abbrev pub half_at : List Ext → ℕ → Ext
half_at h p = slice_index_or h p Low

-- the halves bound the numbers of the indices, and opposite indices have opposite numbers
pub record HalvesAbove (n : ℕ) (v : ℕ → ℤ) (h : List Ext) : Type 0 where
  pub above : (p : ℕ) → p < n → Above (half_at h p) (neg_ℤ (v p))
  pub opposite : (p : ℕ) → v (bar p) ≡ neg_ℤ (v p)

-- there is a half for each index of an even number of them
pub record IsHalves (n : ℕ) (h : List Ext) : Type 0 where
  pub halves_size : length h ≡ 48
  pub halves_range : (p : ℕ) → p < 48 → InRange (half_at h p)
  pub even_size : n % 2 ≡ 0

-- the halves have exact sums
pub record NearHalves (h : List Ext) : Type 0 where
  pub near_half : (p : ℕ) → p < 48 → Near (half_at h p)

-- the row of i is relaxed by the halves of its ends
pub record RowHalved (n i : ℕ) (h : List Ext) (m w : ℕ → ℕ → Ext) : Type 0 where
  pub row_halved : (q : ℕ) → q < n → Relaxed (half_at h i) (half_at h (bar q)) (m i q) (w i q)

-- the halves of the bounds of m from each index to its partner
pub record HalvesOf (n : ℕ) (m : ℕ → ℕ → Ext) (h : List Ext) : Type 0 where
  pub of_size : length h ≡ 48
  pub of_range : (p : ℕ) → p < 48 → InRange (half_at h p)
  pub of_half : (p : ℕ) → p < n → IsHalf (m p (bar p)) (half_at h p)
  pub of_near : ((i j : ℕ) → Near (m i j)) → NearHalves h
  pub of_out : (p : ℕ) → n ≤ p → (x : ℤ) → IsUpTo (half_at h p) x → ⊥

-- an index and its partner have opposite values
pub record IsSigned (v : ℕ → ℤ) : Type 0 where
  pub signed : (p : ℕ) → v (bar p) ≡ neg_ℤ (v p)

-- the columns of row i before j were taken over from f, where m became w, and f bounds w from below where it may
pub record RowStored (i j : ℕ) (f m w : ℕ → ℕ → Ext) : Type 0 where
  pub row : (q : ℕ) → q < j → (x : ℤ) → IsUpTo (f i q) x → IsUpTo (w i q) x
  pub range : AllInRange w
  pub lower : Lowered m w
  pub sound : (v : ℕ → ℤ) → IsSigned v → Meets v m → Meets v f → Meets v w
  pub above : ((p q : ℕ) → f (bar q) (bar p) ≡ f p q) → Lowered m f → Lowered w f

-- the kept columns of the rows before i were taken over from f
pub record Stored (i : ℕ) (f m w : ℕ → ℕ → Ext) : Type 0 where
  pub rows : (p q : ℕ) → p < i → q < reach p → (x : ℤ) → IsUpTo (f p q) x → IsUpTo (w p q) x
  pub range : AllInRange w
  pub lower : Lowered m w
  pub sound : (v : ℕ → ℤ) → IsSigned v → Meets v m → Meets v f → Meets v w
  pub above : ((p q : ℕ) → f (bar q) (bar p) ≡ f p q) → Lowered m f → Lowered w f

-- closed under composing, mirrored, and of a size whose sums are exact: what the halves need
pub record IsReady (n : ℕ) (m : ℕ → ℕ → Ext) : Type 0 where
  pub closed : IsClosed n m
  pub near : (i j : ℕ) → Near (m i j)
  pub up : NotBelowZero (Bounds m)
  pub mirror : Mirrored bar (Bounds m)

-- bounds compose through each index but these, and none says more than 0 of an index and itself
pub record ComposesBut (n : ℕ) (pivots : List ℕ) (m : ℕ → ℕ → Ext) : Type 0 where
  pub zero : (i : ℕ) → i < n → IsUpTo (m i i) (pos 0)
  pub composes : (p : ℕ) → p < n → ((k : ℕ) → k < length pivots → p ≡ slice_index pivots k → ⊥) → Through (Bounds m) p

-- m is what lowering one bound made of tightly closed ones
pub record WasTightly (n i j : ℕ) (m : ℕ → ℕ → Ext) : Type 0 where
  pub before : ℕ → ℕ → Ext
  pub new : Ext
  pub tight : IsTightly n before
  pub lowered : LowersTo i j new before m
