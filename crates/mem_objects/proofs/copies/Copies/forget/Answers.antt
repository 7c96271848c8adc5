use Rattle.std.proofs.Common.{arith, length}
use Rattle.mem_objects.proofs.Lists.{nothing_left}
use Rattle.mem_objects.proofs.copies.Copies.forget.Goals as goal

pub returns : goal.returns
returns c = nothing_left c.loop-temp.self (length c.args.self.now) c.loop-temp.invariant.size (λ k h. c.loop-temp.invariant.none k (omega arith))
