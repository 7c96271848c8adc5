use Rattle.octagons_sources.specs.Seen.{seen}
use Rattle.std.proofs.Common.{◌∙◌}
use Rattle.bound_matrix.specs.Bound.{bound_at}
use Rattle.octagons_bounds.proofs.Widened.{widened-row-step}
use Rattle.octagons_bounds.proofs.widening.widen_row.Goals as goal

pub loop-j-preserved : goal.loop-j-preserved
loop-j-preserved g c = let i = c.loop-j.invariant in
    (c.widen_at.ensures.vars ∙ i.0, i.1, widened-row-step g.S.Steps.list c.args.i c.loop-j.j (bound_at c.args.m.now) (seen c.args.places.now (bound_at c.args.o.now)) (bound_at c.loop-j.m) (bound_at c.widen_at.new.m) c.widen_at.ensures.each c.widen_at.ensures.over i.2)
