use Rattle.std.proofs.Common.{arith, refl}
use Rattle.c_lexer.proofs.NumberLemmas.{runs_on}
use Rattle.c_lexer.proofs.number.number_len.Goals as goal

pub loop-n-preserved : goal.loop-n-preserved
loop-n-preserved c = record {
  some = omega arith;
  within = omega arith;
  all = runs_on c.args.bytes.now c.loop-n.n c.loop-n.invariant.some c.loop-n.invariant.all (c.if-goes_on.ensures.0 refl);
}
