use Rattle.std.proofs.Common.{◌≡◌, ℤ, ◌*◌, List, IsTrue}
use Rattle.bound_matrix.specs.Bound.{bound_at}
use Rattle.bound_matrix.specs.Points.{IsPoint}
use Rattle.octagons_sources.specs.Sources.{AllDrawn}
use Rattle.octagons_sources.specs.Drawn.{DrawsRow}
use Rattle.octagons_sources.proofs.drawing.draw_row.Given as goal

abbrev pub invariant-loop-j : goal.invariant-loop-j
invariant-loop-j l = record {
  vars : l.new.vars ≡ l.initial.new.vars;
  end : l.j-end ≡ 2 * l.initial.new.vars;
  points : (v w : List ℤ) → IsPoint v l.m → AllDrawn l.from l.initial.new.vars v w → IsPoint w l.initial.new → IsPoint w l.new;
  whole : IsTrue l.is_exact → DrawsRow l.from l.i l.j (bound_at l.m) (bound_at l.initial.new) (bound_at l.new);
}
