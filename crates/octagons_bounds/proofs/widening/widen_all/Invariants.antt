use Rattle.octagons_sources.specs.Seen.{seen}
use Rattle.std.proofs.Common.{◌≡◌, ◌*◌}
use Rattle.bound_matrix.specs.Bound.{bound_at, AllInRange}
use Rattle.octagons_bounds.specs.Passes.{WidenedRows}
use Rattle.octagons_bounds.proofs.widening.widen_all.Given as goal

abbrev pub invariant-loop-i : goal.invariant-loop-i
invariant-loop-i g l = (l.m.vars ≡ l.initial.m.vars) × (l.i-end ≡ 2 * l.initial.m.vars) × AllInRange (bound_at l.initial.m) × WidenedRows g.S.Steps.list l.i l.i-end (bound_at l.initial.m) (seen l.places (bound_at l.o)) (bound_at l.m)
