use Rattle.std.proofs.Common.{FitsSigned, arith, rules}
use Rattle.std.specs.Int.{w128}
use Rattle.std.proofs.lemmas.Int.{ints, to_z-of_z}
use Rattle.mem_cell_shows.proofs.ends.point_ends.Goals as goal

pub returns-then-n-clause-holds : goal.returns-then-n-clause-holds
returns-then-n-clause-holds c = c.all.ensures.holds c.args.n

pub returns-clause-holds : goal.returns-clause-holds
returns-clause-holds c =
    let n = c.args.n in
    let fits : FitsSigned w128 n = search rules in
    let same = to_z-of_z w128 n fits in
    ((omega (arith, ints, same), omega (arith, ints, same)), (n, omega (arith, ints)))
