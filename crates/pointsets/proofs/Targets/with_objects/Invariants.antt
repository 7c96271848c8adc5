use Rattle.std.proofs.Common.{◌≡◌, drop}
use Rattle.pointsets.specs.Targets.{with_objects}
use Rattle.pointsets.proofs.Targets.with_objects.Given as goal

abbrev pub invariant-loop-n : goal.invariant-loop-n
invariant-loop-n l = with_objects l.initial.self l.names ≡ with_objects l.self (drop l.n-index l.names)
