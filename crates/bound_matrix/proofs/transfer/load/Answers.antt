use Rattle.std.proofs.Common.{arith}
use Rattle.bound_matrix.proofs.Storing.{load-end}
use Rattle.bound_matrix.proofs.transfer.load.Goals as goal

pub returns-clause-same : goal.returns-clause-same
returns-clause-same g c = load-end c.args.m.now c.args.n c.loop-i.i c.loop-i.cells c.requires.size (omega arith) c.loop-i.invariant.so_far
