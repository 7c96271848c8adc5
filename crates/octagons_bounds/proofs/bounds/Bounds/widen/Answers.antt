use Rattle.std.proofs.Common.{ℕ, sym, subst, ◌∙◌, ap}
use Rattle.bound_matrix.specs.Bound.{MatrixView}
use Rattle.bound_matrix.specs.Points.{IsPoint}
use Rattle.octagons_sources.specs.Seen.{AllSeen}
use Rattle.octagons_bounds.proofs.Raising.{points-up, seen-points}
use Rattle.octagons_bounds.proofs.bounds.Bounds.widen.Goals as goal

pub returns-clause-left : goal.returns-clause-left
returns-clause-left g c = λ v h. points-up v c.self.inside.matrix c.widen_all.new.m c.widen_all.ensures.up (subst (IsPoint v) (sym c.self.view_is) h)

pub returns-clause-right : goal.returns-clause-right
returns-clause-right g c = λ v w h all.
    seen-points c.args.places.now c.next.inside.matrix c.widen_all.new.m v w c.widen_all.ensures.over (subst (IsPoint v) (sym c.next.view_is) h)
    (subst (λ (n : ℕ). AllSeen c.args.places.now n v w) (sym (c.widen_all.ensures.vars ∙ ap (λ (m : MatrixView). m.vars) c.self.view_is)) all)
