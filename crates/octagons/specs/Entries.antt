-- One octagon over another, bound by bound.
use Rattle.std.specs.Prelude.{ℕ}
use Rattle.ext_int.specs.Ext.{AtMost}
use Rattle.bound_matrix.specs.Bound.{bound_at}
use Rattle.octagons_sources.specs.Seen.{seen}
use Rattle.octagons_pack.specs.Packs.{places_in}
use Rattle.octagons_changes.specs.States.{OctagonView}

-- each bound of the first is at or above that of the second, which has none of a variable that it lacks
abbrev pub Covers : OctagonView → OctagonView → Type 0
Covers o other = (i j : ℕ) → AtMost (seen (places_in o.pack other.pack) (bound_at other.matrix) i j) (bound_at o.matrix i j)
