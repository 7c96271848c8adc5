use Rattle.octagons_sources.specs.Seen.{seen}
use Rattle.std.proofs.Common.{◌∙◌, ◌≡◌, ◌<◌, ◌≤◌, ◌*◌, ℕ, ap, sym, arith, subst}
use Rattle.ext_int.specs.Ext.{AtMost}
use Rattle.bound_matrix.specs.Bound.{bound_at}
use Rattle.octagons_bounds.specs.Passes.{all_weight}
use Rattle.octagons_bounds.proofs.Widened.{widened-rows-step, widened-all, raised-up, all-no_rise, all-falls}
use Rattle.octagons_bounds.proofs.widening.widen_all.Goals as goal

pub loop-i-preserved : goal.loop-i-preserved
loop-i-preserved g c = let i = c.loop-i.invariant in
    let e : 2 * c.loop-i.m.vars ≡ 2 * c.vars-i-end.result = ap (λ x. 2 * x) i.0 ∙ sym i.1 in
    (c.widen_row.ensures.vars ∙ i.0, i.1, i.2, widened-rows-step g.S.Steps.list c.loop-i.i (2 * c.vars-i-end.result) (bound_at c.args.m.now) (seen c.args.places.now (bound_at c.args.o.now)) (bound_at c.loop-i.m) (bound_at c.widen_row.new.m) c.widen_row.ensures.each (subst (λ (n : ℕ). (q : ℕ) → q < n → AtMost (seen c.args.places.now (bound_at c.args.o.now) c.loop-i.i q) (bound_at c.widen_row.new.m c.loop-i.i q)) e c.widen_row.ensures.over) i.3)

pub returns-clause-over : goal.returns-clause-over
returns-clause-over g c =
    let i = c.loop-i.invariant in
    let e : 2 * c.vars-i-end.result ≡ 2 * c.loop-i.m.vars = i.1 ∙ ap (λ x. 2 * x) (sym i.0) in
    let f : 2 * c.vars-i-end.result ≤ c.loop-i.i = grind arith in
    widened-all g.S.Steps.list c.loop-i.i (2 * c.vars-i-end.result) (bound_at c.args.m.now) (seen c.args.places.now (bound_at c.args.o.now)) c.loop-i.m i.3 e f

pub returns-clause-up : goal.returns-clause-up
returns-clause-up g c = raised-up g.S.Steps.list (bound_at c.args.m.now) (seen c.args.places.now (bound_at c.args.o.now)) (bound_at c.loop-i.m) c.loop-i.invariant.3.each

pub returns-clause-no_rise : goal.returns-clause-no_rise
returns-clause-no_rise g c =
    let i = c.loop-i.invariant in
    let n = 2 * c.args.m.now.vars in
    subst (λ (k : ℕ). all_weight g.S.Steps.list (2 * k) (2 * k) (bound_at c.loop-i.m) ≤ all_weight g.S.Steps.list n n (bound_at c.args.m.now)) (sym i.0)
    (all-no_rise g.S.Steps.list n (bound_at c.args.m.now) (seen c.args.places.now (bound_at c.args.o.now)) (bound_at c.loop-i.m) i.2 i.3.each (returns-clause-over g c) n)

pub returns-clause-falls : goal.returns-clause-falls
returns-clause-falls g c = λ e.
    let i = c.loop-i.invariant in
    let n = 2 * c.args.m.now.vars in
    subst (λ (k : ℕ). all_weight g.S.Steps.list (2 * k) (2 * k) (bound_at c.loop-i.m) < all_weight g.S.Steps.list n n (bound_at c.args.m.now)) (sym i.0)
    (all-falls g.S.Steps.list n (bound_at c.args.m.now) (seen c.args.places.now (bound_at c.args.o.now)) (bound_at c.loop-i.m) i.2 i.3.each (returns-clause-over g c) n e)
