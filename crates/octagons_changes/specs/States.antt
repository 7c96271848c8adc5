-- An octagon: the variables of its pack, and the bounds of their sums and differences.
use Rattle.std.specs.Prelude.{ℕ, ℤ, ◌≡◌, ◌≤◌, ◌<◌, ◌*◌, Bool, List, [], length, Option, None, Some}
use Rattle.bound_matrix.specs.Bound.{MatrixView, bound_at}
use Rattle.bound_matrix.specs.Points.{IsPoint}
use Rattle.octagons_sources.specs.Seen.{seen}
use Rattle.octagons_bounds.specs.Flags.{no_bounds}
use Rattle.octagons_bounds.specs.Passes.{all_cover, all_weight}
use Rattle.octagons_pack.specs.Packs.{picked, place_in, places_in}

pub record OctagonView : Type 0 where
  pub pack : List ℕ
  pub matrix : MatrixView

-- nothing is known of any variable
abbrev pub no_relations : OctagonView
no_relations = record { pack = []; matrix = no_bounds }

-- the numbers of the pack are a point of the matrix
abbrev pub Admits : OctagonView → List ℤ → Type 0
Admits o v = IsPoint (picked v o.pack) o.matrix

-- the matrix has the variables of the pack, at most 24
pub record IsPack (pack : List ℕ) (vars : ℕ) : Type 0 where
  pub few : vars ≤ 24
  pub size : length pack ≡ vars

-- what is shared, where there is anything
abbrev pub shared_or : Option OctagonView → OctagonView
shared_or None = no_relations
shared_or (Some o) = o

-- the variable stands among the first n of the pack
abbrev pub StandsBefore : ℕ → ℕ → List ℕ → Type 0
StandsBefore n x pack = (k : ℕ) × (place_in x pack ≡ Some k) × (k < n)

-- each bound of the first is at or above that of the second, looked up by variable: one that the second lacks has no bounds there
abbrev pub includes : OctagonView → OctagonView → Bool
includes o other = all_cover (2 * o.matrix.vars) (2 * o.matrix.vars) (bound_at o.matrix) (seen (places_in o.pack other.pack) (bound_at other.matrix))

-- how far widening can still go: the sum over all bounds
abbrev pub openness : List ℤ → OctagonView → ℕ
openness steps o = all_weight steps (2 * o.matrix.vars) (2 * o.matrix.vars) (bound_at o.matrix)
