use Rattle.octagons_sources.specs.Seen.{seen}
use Rattle.std.proofs.Common.{◌≡◌, ◌*◌}
use Rattle.bound_matrix.specs.Bound.{bound_at}
use Rattle.octagons_bounds.specs.Passes.{row_covers}
use Rattle.octagons_bounds.proofs.lattice.covers_row.Given as goal

abbrev pub invariant-loop-j : goal.invariant-loop-j
invariant-loop-j l = (l.j-end ≡ 2 * l.m.vars) × (l.all ≡ row_covers l.j (bound_at l.m l.i) (seen l.places (bound_at l.o) l.i))
