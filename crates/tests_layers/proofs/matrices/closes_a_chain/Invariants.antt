use Rattle.std.proofs.Common.{◌≡◌}
use Rattle.tests_layers.proofs.matrices.closes_a_chain.Given as goal

abbrev pub invariant-loop-k : goal.invariant-loop-k
invariant-loop-k g l = l.m.vars ≡ 24
