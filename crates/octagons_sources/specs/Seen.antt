-- Bounds of the variables at some places, as another matrix has them.
use Rattle.std.specs.Prelude.{ℕ, ℤ, pos, ◌≡◌, ◌<◌, ◌+◌, ◌/◌, ◌%◌, if◌then◌else◌, nat_eq, List, slice_index_or, Option, None, Some}
use Rattle.ext_int.specs.Valuation.{value_at}
use Rattle.ext_int.specs.declared.Ext.{Ext}
use Rattle.ext_int.specs.declared.Ext.TheVariants.{Fin, High}

-- where the variable at place k stands in the other matrix, if it does
abbrev pub place_at : List (Option ℕ) → ℕ → Option ℕ
place_at places k = slice_index_or places k None

abbrev pub index_at : Option ℕ → ℕ → Option ℕ
index_at None side = None
index_at (Some k) side = Some (k + k + side)

-- the index that stands for the same variable there
abbrev pub seen_index : List (Option ℕ) → ℕ → Option ℕ
seen_index places p = index_at (place_at places (p / 2)) (p % 2)

abbrev pub bound_of : (ℕ → ℕ → Ext) → Option ℕ → Option ℕ → Ext
bound_of m None b = High
bound_of m (Some i) None = High
bound_of m (Some i) (Some j) = m i j

-- the bound of two indices as the other matrix has it: none where a variable is not there, and 0 between an index and itself
abbrev pub seen : List (Option ℕ) → (ℕ → ℕ → Ext) → ℕ → ℕ → Ext
seen places m p q = if nat_eq p q then Fin (pos 0) else bound_of m (seen_index places p) (seen_index places q)

-- each number of the second valuation is that of the variable in the first, where it is there
abbrev pub AllSeen : List (Option ℕ) → ℕ → List ℤ → List ℤ → Type 0
AllSeen places vars v w = (k l : ℕ) → k < vars → place_at places k ≡ Some l → value_at w k ≡ value_at v l
