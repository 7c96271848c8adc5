use Rattle.std.proofs.Common.{◌+ℤ◌}
use Rattle.env_lift.proofs.Changing.{none_any}
use Rattle.env_lift.proofs.Inverting.{sum_first, sum_second}
use Rattle.env_lift.proofs.inverses.from_sum.Goals as goal

pub returns-in_err-left-clause-none : goal.returns-in_err-left-clause-none
returns-in_err-left-clause-none g c = none_any _ c.from_residual.result (λ x y p q r. c.in_err-left.ensures.none x p (c.binary.ensures.holds (x +ℤ y) y x r q (sum_first x y)))

pub returns-in_err-right-clause-none : goal.returns-in_err-right-clause-none
returns-in_err-right-clause-none g c = none_any _ c.from_residual-in_err-right.result (λ x y p q r.
    let left = c.in_ok-left.ensures.some x p (c.binary.ensures.holds (x +ℤ y) y x r q (sum_first x y)) in
    c.in_err-right.ensures.none y q (c.binary-2.ensures.holds (x +ℤ y) x y r left (sum_second x y)))

pub returns-clause-some : goal.returns-clause-some
returns-clause-some g c = λ x y p q r.
    let left = c.in_ok-left.ensures.some x p (c.binary.ensures.holds (x +ℤ y) y x r q (sum_first x y)) in
    (left, c.in_ok-right.ensures.some y q (c.binary-2.ensures.holds (x +ℤ y) x y r left (sum_second x y)))
