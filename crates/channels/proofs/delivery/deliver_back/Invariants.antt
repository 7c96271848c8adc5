use Rattle.std.proofs.Common.{IsTrue, length}
use Rattle.channels.specs.Hearing.{IsHanded}
use Rattle.channels.proofs.delivery.deliver_back.Given as goal

abbrev pub invariant-loop-m : goal.invariant-loop-m
invariant-loop-m g l = IsHanded g.D.Oracle.admits g.D.Oracle.known (IsTrue g.D.Oracle.exact) l.initial.state l.state l.told l.left

abbrev pub decreases-loop-m : goal.decreases-loop-m
decreases-loop-m g l = length l.left
