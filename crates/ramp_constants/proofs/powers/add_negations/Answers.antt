use Rattle.std.proofs.Common.{arith}
use Rattle.ramp_constants.proofs.Around.{more_negations, negations_done}
use Rattle.ramp_constants.proofs.powers.add_negations.Goals as goal

pub loop-exponent-preserved : goal.loop-exponent-preserved
loop-exponent-preserved c = record {
  few = omega (arith, c.loop-exponent.invariant.few);
  steps = more_negations c.loop-exponent.steps.items c.add_negation.new.steps.items _ c.loop-exponent.exponent c.loop-exponent-test.true
      c.loop-exponent.invariant.steps c.in_ok-add_negation.ensures;
}

pub returns : goal.returns
returns c = negations_done c.loop-exponent.steps.items _ c.loop-exponent.exponent (omega (arith, c.loop-exponent-test.false)) c.loop-exponent.invariant.steps
