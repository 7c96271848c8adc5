use Rattle.std.proofs.Common.{ℕ, sym, subst, ◌∙◌, ap}
use Rattle.bound_matrix.specs.Bound.{MatrixView}
use Rattle.bound_matrix.specs.Points.{IsPoint}
use Rattle.octagons_sources.specs.Seen.{AllSeen}
use Rattle.octagons_bounds.proofs.Raising.{points-up, seen-points}
use Rattle.octagons_bounds.proofs.bounds.Bounds.join.Goals as goal

pub returns-clause-left : goal.returns-clause-left
returns-clause-left c = λ v h. points-up v c.self.inside.matrix c.raise_all.new.m c.raise_all.ensures.up (subst (IsPoint v) (sym c.self.view_is) h)

pub returns-clause-right : goal.returns-clause-right
returns-clause-right c = λ v w h all.
    seen-points c.args.places.now c.other.inside.matrix c.raise_all.new.m v w c.raise_all.ensures.over (subst (IsPoint v) (sym c.other.view_is) h)
    (subst (λ (n : ℕ). AllSeen c.args.places.now n v w) (sym (c.raise_all.ensures.vars ∙ ap (λ (m : MatrixView). m.vars) c.self.view_is)) all)
