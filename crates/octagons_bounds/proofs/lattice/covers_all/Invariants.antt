use Rattle.octagons_sources.specs.Seen.{seen}
use Rattle.std.proofs.Common.{◌≡◌, ◌*◌}
use Rattle.bound_matrix.specs.Bound.{bound_at}
use Rattle.octagons_bounds.specs.Passes.{all_cover}
use Rattle.octagons_bounds.proofs.lattice.covers_all.Given as goal

abbrev pub invariant-loop-i : goal.invariant-loop-i
invariant-loop-i l = (l.i-end ≡ 2 * l.m.vars) × (l.all ≡ all_cover l.i (2 * l.m.vars) (bound_at l.m) (seen l.places (bound_at l.o)))
