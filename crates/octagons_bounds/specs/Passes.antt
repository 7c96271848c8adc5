-- Passes over the bounds of a matrix: comparing, raising and widening them, and how far widening can still go.
use Rattle.std.specs.Prelude.{ℕ, ℤ, zero, suc, ◌+◌, ◌≡◌, ◌⊎◌, ◌<◌, Bool, true, false, ◌&&◌, if◌then◌else◌, IsTrue, List, Option, Some, None}
use Rattle.std.specs.Int.RustNames.{int_le}
use Rattle.ext_int.specs.Ext.{AtMost}
use Rattle.ext_int.specs.declared.Ext.{Ext}
use Rattle.ext_int.specs.declared.Ext.TheVariants.{Low, Fin, High}
use Rattle.num_api.specs.Steps.{least}
use Rattle.num_api.specs.Weight.{weight_above}

-- the first end is at or below the second
abbrev pub is_at_most : Ext → Ext → Bool
is_at_most Low b = true
is_at_most (Fin x) Low = false
is_at_most (Fin x) (Fin y) = int_le x y
is_at_most (Fin x) High = true
is_at_most High Low = false
is_at_most High (Fin y) = false
is_at_most High High = true

-- the bounds of a row are at or above the others, at columns below n
abbrev pub row_covers : ℕ → (ℕ → Ext) → (ℕ → Ext) → Bool
row_covers zero f g = true
row_covers (suc n) f g = row_covers n f g && is_at_most (g n) (f n)

-- the same of all rows below r
abbrev pub all_cover : ℕ → ℕ → (ℕ → ℕ → Ext) → (ℕ → ℕ → Ext) → Bool
all_cover zero n f g = true
all_cover (suc r) n f g = all_cover r n f g && row_covers n (f r) (g r)

-- ---- widening

-- a step, or no bound where there is none
abbrev pub step_or : Option ℤ → Ext
step_or None = High
step_or (Some step) = Fin step

-- the least step that is not below the end
abbrev pub step_above : List ℤ → Ext → Ext
step_above steps Low = High
step_above steps (Fin n) = step_or (least steps n)
step_above steps High = High

-- an upper end stays where the next one is not above it, and else goes on to a step above that one
abbrev pub raised : List ℤ → Ext → Ext → Ext
raised steps old next = if is_at_most next old then old else step_above steps next

-- each bound stayed or went on to a step above the other one
pub record IsRaised (steps : List ℤ) (m o w : ℕ → ℕ → Ext) : Type 0 where
  pub each : (p q : ℕ) → (w p q ≡ m p q) ⊎ (w p q ≡ raised steps (m p q) (o p q))

-- how far the bounds of a row can still go
abbrev pub row_weight : List ℤ → ℕ → (ℕ → Ext) → ℕ
row_weight steps zero f = 0
row_weight steps (suc n) f = row_weight steps n f + weight_above steps (f n)

-- how far those of all rows below r can
abbrev pub all_weight : List ℤ → ℕ → ℕ → (ℕ → ℕ → Ext) → ℕ
all_weight steps zero n f = 0
all_weight steps (suc r) n f = all_weight steps r n f + row_weight steps n (f r)

-- what a pass that raises the bounds to those of o has done: in the rows before i, and in row i before j
pub record RaisedTo (i j : ℕ) (m o w : ℕ → ℕ → Ext) : Type 0 where
  pub up : (p q : ℕ) → AtMost (m p q) (w p q)
  pub over : (p q : ℕ) → p ≡ i → q < j → AtMost (o p q) (w p q)

pub record RowsRaisedTo (i n : ℕ) (m o w : ℕ → ℕ → Ext) : Type 0 where
  pub up : (p q : ℕ) → AtMost (m p q) (w p q)
  pub over : (p q : ℕ) → p < i → q < n → AtMost (o p q) (w p q)

-- what a widening pass has done in row i before j, and in the rows before i
pub record WidenedRow (steps : List ℤ) (i j : ℕ) (m o w : ℕ → ℕ → Ext) : Type 0 where
  pub each : IsRaised steps m o w
  pub over : (p q : ℕ) → p ≡ i → q < j → AtMost (o p q) (w p q)

pub record WidenedRows (steps : List ℤ) (i n : ℕ) (m o w : ℕ → ℕ → Ext) : Type 0 where
  pub each : IsRaised steps m o w
  pub over : (p q : ℕ) → p < i → q < n → AtMost (o p q) (w p q)
