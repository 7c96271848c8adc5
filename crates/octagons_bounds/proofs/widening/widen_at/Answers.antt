use Rattle.octagons_sources.specs.Seen.{seen}
use Rattle.std.proofs.Common.{◌≡◌, ◌∙◌, sym, ap, false}
use Rattle.bound_matrix.specs.Bound.{bound_at}
use Rattle.octagons_bounds.proofs.Widened.{widen-each, widen-over}
use Rattle.octagons_sources.proofs.SeenBounds.{seen-mirror}
use Rattle.octagons_bounds.specs.Passes.{is_at_most, step_above}
use Rattle.ext_int.specs.declared.Ext.{Ext}
use Rattle.octagons_bounds.proofs.widening.widen_at.Goals as goal

pub returns-then-not-at_most-clause-each : goal.returns-then-not-at_most-clause-each
returns-then-not-at_most-clause-each g c =
    let old = bound_at c.args.m.now c.args.i c.args.j in
    let above : is_at_most (seen c.args.places.now (bound_at c.args.o.now) c.args.i c.args.j) old ≡ false = ap (λ (e : Ext). is_at_most e old) (sym c.seen_bound-next.ensures.value) ∙ (ap (is_at_most c.seen_bound-next.result) (sym c.get.ensures.value) ∙ (sym c.at_most.ensures ∙ c.if-not-at_most.true)) in
    widen-each g.S.Steps.list c.args.i c.args.j c.step_end.result c.args.m.now (seen c.args.places.now (bound_at c.args.o.now)) c.raise.new.self (seen-mirror c.args.places.now c.args.o.now c.args.i c.args.j) c.raise.ensures.raised
    (c.step_end.ensures.value ∙ ap (step_above g.S.Steps.list) c.seen_bound-next.ensures.value) c.step_end.ensures.range above

pub returns-then-not-at_most-clause-over : goal.returns-then-not-at_most-clause-over
returns-then-not-at_most-clause-over g c =
    widen-over g.S.Steps.list c.args.i c.args.j c.step_end.result c.args.m.now (seen c.args.places.now (bound_at c.args.o.now)) c.raise.new.self (seen-mirror c.args.places.now c.args.o.now c.args.i c.args.j) c.raise.ensures.raised
    (c.step_end.ensures.value ∙ ap (step_above g.S.Steps.list) c.seen_bound-next.ensures.value) c.step_end.ensures.range
