use Rattle.std.proofs.Common.{arith, FitsSigned}
use Rattle.std.proofs.lemmas.Int.{ints, to_z-of_z}
use mir.Syntax.{w128}
use Rattle.intervals.proofs.Shifts.{shifted_left-some, shifted_left-none}
use Rattle.intervals.proofs.bits.shift_left.Goals as goal

pub returns-else-amount-lt0-clause-some : goal.returns-else-amount-lt0-clause-some
returns-else-amount-lt0-clause-some c =
    let fits : FitsSigned w128 c.min.result = record { sfits = c.min.type_inv } in
    let least = rw (to_z-of_z w128 c.args.amount c.ranges.amount) at c.min.ensures.value in
    let product = rw (to_z-of_z w128 c.args.x c.ranges.x, to_z-of_z w128 c.min.result fits) at c.times_power.ensures in
    shifted_left-some c.args.x c.args.amount c.min.result c.times_power.result (omega (arith, ints)) least product

pub returns-else-amount-lt0-clause-none : goal.returns-else-amount-lt0-clause-none
returns-else-amount-lt0-clause-none c =
    let fits : FitsSigned w128 c.min.result = record { sfits = c.min.type_inv } in
    let least = rw (to_z-of_z w128 c.args.amount c.ranges.amount) at c.min.ensures.value in
    let product = rw (to_z-of_z w128 c.args.x c.ranges.x, to_z-of_z w128 c.min.result fits) at c.times_power.ensures in
    shifted_left-none c.args.x c.args.amount c.min.result c.times_power.result (omega (arith, ints)) least product
