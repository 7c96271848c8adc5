use Rattle.octagons_sources.specs.Seen.{seen}
use Rattle.std.proofs.Common.{sym, ◌∙◌}
use Rattle.bound_matrix.specs.Bound.{bound_at}
use Rattle.bound_matrix.proofs.Places.{bound-mirror}
use Rattle.octagons_bounds.proofs.Raising.{raised-to-step}
use Rattle.octagons_bounds.proofs.lattice.raise_row.Goals as goal

pub loop-j-preserved : goal.loop-j-preserved
loop-j-preserved c =
    let i = c.loop-j.invariant in
    (c.raise.ensures.vars ∙ i.0, i.1, raised-to-step c.args.i c.loop-j.j (bound_at c.args.m.now) (seen c.args.places.now (bound_at c.args.o.now)) (bound_at c.loop-j.m) (bound_at c.raise.new.self) c.seen_bound.result c.raise.ensures.raised (sym (bound-mirror c.loop-j.m c.args.i c.loop-j.j)) c.seen_bound.ensures.value c.seen_bound.ensures.range i.2)
