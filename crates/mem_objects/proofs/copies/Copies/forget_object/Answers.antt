use Rattle.std.proofs.Common.{arith}
use Rattle.mem_objects.proofs.Lists.{without_is}
use Rattle.mem_objects.proofs.copies.Copies.forget_object.Goals as goal

pub returns : goal.returns
returns c = without_is c.args.object c.args.self.now c.loop-temp.self c.loop-temp.invariant.size (λ d h. c.loop-temp.invariant.gone d (omega arith))
