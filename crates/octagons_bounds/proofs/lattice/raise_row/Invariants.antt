use Rattle.octagons_sources.specs.Seen.{seen}
use Rattle.std.proofs.Common.{◌≡◌, ◌*◌}
use Rattle.bound_matrix.specs.Bound.{bound_at}
use Rattle.octagons_bounds.specs.Passes.{RaisedTo}
use Rattle.octagons_bounds.proofs.lattice.raise_row.Given as goal

abbrev pub invariant-loop-j : goal.invariant-loop-j
invariant-loop-j l = (l.m.vars ≡ l.initial.m.vars) × (l.j-end ≡ 2 * l.initial.m.vars) × RaisedTo l.i l.j (bound_at l.initial.m) (seen l.places (bound_at l.o)) (bound_at l.m)
