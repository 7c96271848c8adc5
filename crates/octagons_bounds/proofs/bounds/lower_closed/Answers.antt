use Rattle.std.proofs.Common.{ℕ, ℤ, neg_ℤ, ◌≡◌, ◌+◌, ◌+ℤ◌, sym, subst, ◌∙◌, ap, IsTrue}
use Rattle.ext_int.specs.Ext.{AtMost}
use Rattle.ext_int.proofs.Ends.{AtMost_trans, lesser_second}
use Rattle.ext_int.specs.declared.Ext.{Ext}
use Rattle.bound_matrix.specs.Bound.{MatrixView, bound_at, cut}
use Rattle.bound_matrix.specs.Points.{IsPoint, IsTight, WasTight}
use Rattle.octagons_bounds.proofs.Raising.{lowered-point, lowered-under}
use Rattle.octagons_bounds.proofs.bounds.lower_closed.Goals as goal

pub returns-clause-entry : goal.returns-clause-entry
returns-clause-entry c =
    AtMost_trans _ (bound_at c.lower.new.self c.args.i c.args.j) (cut c.args.bound) (c.close_again-live.ensures.lower c.args.i c.args.j)
    (subst (λ (e : Ext). AtMost e (cut c.args.bound)) (sym c.lower.ensures.lowered.here) (lesser_second (bound_at c.bounds.inside.matrix c.args.i c.args.j) (cut c.args.bound)))

pub returns-clause-lower : goal.returns-clause-lower
returns-clause-lower c = λ p q.
    AtMost_trans _ (bound_at c.lower.new.self p q) (bound_at c.args.bounds.now p q) (c.close_again-live.ensures.lower p q)
    (subst (λ (m : MatrixView). AtMost (bound_at c.lower.new.self p q) (bound_at m p q)) c.bounds.view_is (lowered-under c.bounds.inside.matrix c.lower.new.self c.args.i c.args.j c.args.bound c.lower.ensures.lowered p q))

pub returns-clause-points : goal.returns-clause-points
returns-clause-points c = λ v h a.
    c.close_again-live.ensures.points v (lowered-point v c.bounds.inside.matrix c.lower.new.self c.args.i c.args.j c.args.bound c.lower.ensures.lowered (subst (IsPoint v) (sym c.bounds.view_is) h) a)

pub close_again-live-requires-clause-lowered : goal.close_again-live-requires-clause-lowered
close_again-live-requires-clause-lowered c = λ t. record {
  before = c.bounds.inside.matrix;
  new = c.args.bound;
  tight = subst (λ (n : ℕ). IsTight (n + n) (bound_at c.bounds.inside.matrix)) (sym c.lower.ensures.vars) (c.bounds.invariant.tight t);
  lowered = c.lower.ensures.lowered;
}
