use Rattle.residues.specs.LowBits.{IsPowerDividing}
use Rattle.residues.proofs.class.bits.common_power.Given as goal

abbrev pub invariant-loop-bits : goal.invariant-loop-bits
invariant-loop-bits l = IsPowerDividing l._bits l.m l.n l.step
