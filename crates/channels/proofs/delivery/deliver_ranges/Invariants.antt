use Rattle.std.proofs.Common.{IsTrue, drop, take}
use Rattle.channels.specs.Hearing.{IsDelivered}
use Rattle.channels.proofs.delivery.deliver_ranges.Given as goal

abbrev pub invariant-loop-m : goal.invariant-loop-m
invariant-loop-m g l = IsDelivered g.D.Oracle.admits g.D.Oracle.known (IsTrue g.D.Oracle.exact) l.initial.state l.state l.told (take l.m-index l.told) (drop l.m-index l.told)
