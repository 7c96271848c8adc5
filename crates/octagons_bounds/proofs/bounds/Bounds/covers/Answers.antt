use Rattle.std.proofs.Common.{sym, subst, ◌∙◌, ◌*◌, refl}
use Rattle.bound_matrix.specs.Bound.{MatrixView, bound_at}
use Rattle.bound_matrix.specs.Points.{IsPoint}
use Rattle.octagons_sources.specs.Seen.{seen, AllSeen}
use Rattle.octagons_bounds.proofs.Raising.{seen-points}
use Rattle.octagons_bounds.proofs.Widened.{covered-over}
use Rattle.octagons_bounds.proofs.bounds.Bounds.covers.Goals as goal

pub returns-clause-included : goal.returns-clause-included
returns-clause-included c = λ t v w h all.
    let own = c.self.inside.matrix in let other = c.other.inside.matrix in
    let over = covered-over (2 * own.vars) own (seen c.args.places.now (bound_at other)) refl (sym c.covers_all.ensures ∙ t) in
    subst (IsPoint w) c.self.view_is (seen-points c.args.places.now other own v w over (subst (IsPoint v) (sym c.other.view_is) h)
    (subst (λ (m : MatrixView). AllSeen c.args.places.now m.vars v w) (sym c.self.view_is) all))
