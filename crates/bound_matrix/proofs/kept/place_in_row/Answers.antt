use Rattle.std.proofs.Common.{arith}
use Rattle.bound_matrix.proofs.Places.{row_start-is}
use Rattle.bound_matrix.proofs.kept.place_in_row.Goals as goal

pub returns : goal.returns
returns c = let e = row_start-is c.args.row in omega arith
