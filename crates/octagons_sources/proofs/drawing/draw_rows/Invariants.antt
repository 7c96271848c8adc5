use Rattle.std.proofs.Common.{◌≡◌, ℤ, ◌*◌, List, IsTrue}
use Rattle.bound_matrix.specs.Bound.{bound_at}
use Rattle.bound_matrix.specs.Points.{IsPoint}
use Rattle.octagons_sources.specs.Sources.{AllDrawn}
use Rattle.octagons_sources.specs.Drawn.{DrawsRows}
use Rattle.octagons_sources.proofs.drawing.draw_rows.Given as goal

abbrev pub invariant-loop-i : goal.invariant-loop-i
invariant-loop-i l = record {
  vars : l.new.vars ≡ l.initial.new.vars;
  end : l.i-end ≡ 2 * l.initial.new.vars;
  points : (v w : List ℤ) → IsPoint v l.m → AllDrawn l.from l.initial.new.vars v w → IsPoint w l.new;
  whole : IsTrue l.is_exact → DrawsRows l.from l.i l.i-end (bound_at l.m) (bound_at l.new);
}
