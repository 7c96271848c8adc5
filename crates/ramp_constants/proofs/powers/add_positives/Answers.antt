use Rattle.std.proofs.Common.{arith}
use Rattle.ramp_constants.proofs.Around.{more_powers, powers_done}
use Rattle.ramp_constants.proofs.powers.add_positives.Goals as goal

pub loop-exponent-preserved : goal.loop-exponent-preserved
loop-exponent-preserved c = record {
  few = omega (arith, c.loop-exponent-test.true);
  steps = more_powers c.loop-exponent.steps.items c.add_positive.new.steps.items _ c.loop-exponent.exponent c.loop-exponent-test.true
      c.loop-exponent.invariant.steps c.in_ok-add_positive.ensures;
}

pub returns : goal.returns
returns c =
    powers_done c.loop-exponent.steps.items _ c.loop-exponent.exponent (omega (arith, c.loop-exponent-test.false, c.loop-exponent.invariant.few))
    c.loop-exponent.invariant.steps
