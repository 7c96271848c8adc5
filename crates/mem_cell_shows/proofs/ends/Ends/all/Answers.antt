use Rattle.std.proofs.Common.{arith}
use Rattle.std.proofs.lemmas.Int.{ints}
use Rattle.mem_cell_shows.proofs.ends.Ends.all.Goals as goal

pub returns-clause-holds : goal.returns-clause-holds
returns-clause-holds c = λ n. ((tt, tt), (n, omega (arith, ints)))
