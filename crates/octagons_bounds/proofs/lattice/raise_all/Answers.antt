use Rattle.bound_matrix.specs.Bound.{bound_at}
use Rattle.octagons_sources.specs.Seen.{seen}
use Rattle.std.proofs.Common.{ℕ, sym, subst, ◌∙◌, ◌≡◌, ◌*◌, ◌<◌, ◌≤◌, arith, ap}
use Rattle.ext_int.specs.Ext.{AtMost}
use Rattle.octagons_bounds.proofs.Raising.{all-over, rows-raised-step}
use Rattle.octagons_bounds.proofs.lattice.raise_all.Goals as goal

pub returns-clause-over : goal.returns-clause-over
returns-clause-over c =
    let i = c.loop-i.invariant in
    let e : 2 * c.vars-i-end.result ≡ 2 * c.loop-i.m.vars = i.1 ∙ ap (λ x. 2 * x) (sym i.0) in
    let f : 2 * c.vars-i-end.result ≤ c.loop-i.i = grind arith in
    all-over c.loop-i.i (2 * c.vars-i-end.result) (bound_at c.args.m.now) (seen c.args.places.now (bound_at c.args.o.now)) c.loop-i.m i.2 e f

pub loop-i-preserved : goal.loop-i-preserved
loop-i-preserved c =
    let i = c.loop-i.invariant in
    let e : 2 * c.loop-i.m.vars ≡ 2 * c.vars-i-end.result = ap (λ x. 2 * x) i.0 ∙ sym i.1 in (
      c.raise_row.ensures.vars ∙ i.0,
      i.1,
      rows-raised-step c.loop-i.i (2 * c.vars-i-end.result) (bound_at c.args.m.now) (seen c.args.places.now (bound_at c.args.o.now)) (bound_at c.loop-i.m) (bound_at c.raise_row.new.m) c.raise_row.ensures.up
          (subst (λ (n : ℕ). (q : ℕ) → q < n → AtMost (seen c.args.places.now (bound_at c.args.o.now) c.loop-i.i q) (bound_at c.raise_row.new.m c.loop-i.i q)) e c.raise_row.ensures.over) i.2,
    )
