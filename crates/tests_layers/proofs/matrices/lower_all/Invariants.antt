use Rattle.std.proofs.Common.{◌≡◌}
use Rattle.tests_layers.proofs.matrices.lower_all.Given as goal

abbrev pub invariant-loop-i : goal.invariant-loop-i
invariant-loop-i l = l.vars ≡ l.m.vars
