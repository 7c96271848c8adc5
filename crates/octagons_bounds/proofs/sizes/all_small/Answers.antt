use Rattle.std.proofs.Common.{arith}
use Rattle.octagons_bounds.proofs.Closing.{small-all}
use Rattle.octagons_bounds.proofs.sizes.all_small.Goals as goal

pub returns : goal.returns
returns c = λ t. let i = c.loop-i.invariant in let e = i.end in let f = c.loop-i-test.false in
    small-all c.args.m.now (λ p q a b. i.before p q (omega arith) b)
