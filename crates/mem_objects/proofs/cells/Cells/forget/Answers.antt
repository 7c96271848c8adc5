use Rattle.std.proofs.Common.{arith, length}
use Rattle.mem_objects.proofs.Lists.{nothing_left}
use Rattle.mem_objects.proofs.cells.Cells.forget.Goals as goal

pub returns : goal.returns
returns c = nothing_left c.loop-x.self (length c.args.self.now) c.loop-x.invariant.size (λ k h. c.loop-x.invariant.none k (omega arith))
