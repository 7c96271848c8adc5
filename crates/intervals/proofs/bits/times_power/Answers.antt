use Rattle.std.proofs.Common.{◌/◌, ◌≤◌, arith, FitsSigned, ◌-◌}
use Rattle.std.proofs.lemmas.Int.{to_z-of_z}
use mir.Syntax.{w128}
use Rattle.intervals.proofs.Shifts.{power_is, second_step, no_first_step}
use Rattle.intervals.proofs.bits.times_power.Goals as goal

pub returns-in_err-partial : goal.returns-in_err-partial
returns-in_err-partial c =
    let h : c.args.k / 2 ≤ 64 = omega arith in
    rw c.from_residual.ensures
    (no_first_step c.args.x _ c.args.k (c.args.k / 2) (omega arith) (power_is (c.args.k / 2) h)
    (rw (to_z-of_z w128 c.args.x c.ranges.x) at c.in_err-partial.ensures))

pub returns : goal.returns
returns c =
    let h : c.args.k / 2 ≤ 64 = omega arith in
    let i : c.args.k - c.args.k / 2 ≤ 64 = omega arith in
    let first = rw (to_z-of_z w128 c.args.x c.ranges.x) at c.in_ok-partial.ensures in
    let fits : FitsSigned w128 c.in_ok-partial.partial = rw first.1 first.0 in
    second_step c.args.x _ _ c.in_ok-partial.partial c.args.k (c.args.k / 2) c.checked_mul-2.result (omega arith) (power_is (c.args.k / 2) h) (power_is (c.args.k - c.args.k / 2) i) first.1
    (rw (to_z-of_z w128 c.in_ok-partial.partial fits) at c.checked_mul-2.ensures)
