use Rattle.std.proofs.Common.{arith}
use Rattle.c_check_names.proofs.Places.{cut_to}
use Rattle.c_check_names.proofs.table.Table.truncate.Goals as goal

pub returns : goal.returns
returns g c = cut_to c.args.count _ c.args.self.now c.loop-self.invariant.1 (omega arith) c.loop-self.invariant.2
