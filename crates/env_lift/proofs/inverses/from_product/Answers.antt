use Rattle.std.proofs.Common.{subst}
use Rattle.std.proofs.Math.IntN.{*ℤ_comm}
use Rattle.env_lift.proofs.Changing.{none_any}
use Rattle.env_lift.proofs.inverses.from_product.Goals as goal

pub returns-in_err-right-clause-none : goal.returns-in_err-right-clause-none
returns-in_err-right-clause-none g c = none_any _ c.from_residual-in_err-right.result (λ x y p q r.
    c.in_err-right.ensures.none y x q (c.in_ok-left.ensures.some x y p q r) (subst (g.V.ValueDomain.admits c.args.product.now) (*ℤ_comm x y) r))

pub returns-clause-some : goal.returns-clause-some
returns-clause-some g c = λ x y p q r.
    let left = c.in_ok-left.ensures.some x y p q r in
    (left, c.in_ok-right.ensures.some y x q left (subst (g.V.ValueDomain.admits c.args.product.now) (*ℤ_comm x y) r))
