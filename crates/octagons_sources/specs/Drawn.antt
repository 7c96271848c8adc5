-- Bounds that are taken from those of other variables.
use Rattle.std.specs.Prelude.{ℕ, zero, suc, pos, ◌≡◌, ◌<◌, ◌+◌, ◌⊎◌, ◌+ℤ◌, Bool, true, false, ◌&&◌, if◌then◌else◌, nat_eq, List, Option, None, Some}
use Rattle.std.specs.Int.RustNames.{int_le}
use Rattle.ext_int.specs.Ext.{half, sum_high}
use Rattle.ext_int.specs.declared.Ext.{Ext}
use Rattle.ext_int.specs.declared.Ext.TheVariants.{Low, Fin, High}
use Rattle.bound_matrix.specs.Bound.{bar}
use Rattle.octagons_sources.specs.declared.source.Source.{Source}
use Rattle.octagons_sources.specs.Sources.{index_from, most_added}

-- the bound of the difference of two indices, each of which may be missing and then stands for 0
abbrev pub between : (ℕ → ℕ → Ext) → Option ℕ → Option ℕ → Ext
between m None None = Fin (pos 0)
between m None (Some j) = half (m (bar j) j)
between m (Some i) None = half (m i (bar i))
between m (Some i) (Some j) = m i j

-- the bound of two indices that follows from those of their sources, as an i128 or none
abbrev pub drawn : List Source → (ℕ → ℕ → Ext) → ℕ → ℕ → Ext
drawn from m p q = if nat_eq p q then Fin (pos 0) else sum_high (sum_high (between m (index_from from p) (index_from from q)) (most_added from q)) (most_added from (bar p))

-- the sum of three numbers; no bound where one is missing
abbrev pub whole_sum : Ext → Ext → Ext → Ext
whole_sum Low b c = High
whole_sum High b c = High
whole_sum (Fin x) Low c = High
whole_sum (Fin x) High c = High
whole_sum (Fin x) (Fin y) Low = High
whole_sum (Fin x) (Fin y) High = High
whole_sum (Fin x) (Fin y) (Fin z) = Fin ((x +ℤ y) +ℤ z)

-- the same bound, of whatever size
abbrev pub drawn_whole : List Source → (ℕ → ℕ → Ext) → ℕ → ℕ → Ext
drawn_whole from m p q = if nat_eq p q then Fin (pos 0) else whole_sum (between m (index_from from p) (index_from from q)) (most_added from q) (most_added from (bar p))

-- each bound is missing or the drawn one
pub record IsPartly (from : List Source) (m w : ℕ → ℕ → Ext) : Type 0 where
  pub partly : (p q : ℕ) → (w p q ≡ High) ⊎ (w p q ≡ drawn_whole from m p q)

-- what is drawn already stays so
pub record KeepsDrawn (from : List Source) (m w u : ℕ → ℕ → Ext) : Type 0 where
  pub stays : (p q : ℕ) → w p q ≡ drawn_whole from m p q → u p q ≡ drawn_whole from m p q

-- a step of drawing row i up to column j
pub record DrawsRow (from : List Source) (i j : ℕ) (m w u : ℕ → ℕ → Ext) : Type 0 where
  pub partly : IsPartly from m w → IsPartly from m u
  pub keeps : IsPartly from m w → KeepsDrawn from m w u
  pub row : IsPartly from m w → (q : ℕ) → q < j → u i q ≡ drawn_whole from m i q

-- the rows before i are drawn
pub record DrawsRows (from : List Source) (i n : ℕ) (m w : ℕ → ℕ → Ext) : Type 0 where
  pub partly : IsPartly from m w
  pub rows : (p q : ℕ) → p < i → q < n → w p q ≡ drawn_whole from m p q
