use Rattle.std.proofs.Common.{drop}
use Rattle.c_objects.specs.Writing.{Rise}
use Rattle.c_objects.proofs.initial.is_rising.Given as goal

-- the items that are left decide for all
abbrev pub invariant-loop-bytes : goal.invariant-loop-bytes
invariant-loop-bytes l = Rise l.from (drop l.bytes-index l.named) → Rise 0 l.named
