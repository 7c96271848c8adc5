use Rattle.mem_temps.proofs.Valued.{either_value, null_value}
use Rattle.mem_temps.proofs.operators.pointer_range.Goals as goal

pub returns-then-not-is_zero : goal.returns-then-not-is_zero
returns-then-not-is_zero c = either_value c.args.c c.args.r c.args.s c.either.result c.either.ensures
    (λ p q. let yes = c.is_zero.ensures.1 p in let no = c.if-not-is_zero.true in absurd (cc))

pub returns-then-not-is_zero-2 : goal.returns-then-not-is_zero-2
returns-then-not-is_zero-2 c = either_value c.args.c c.args.r c.args.s c.either-then-not-is_zero-2.result c.either-then-not-is_zero-2.ensures
    (λ p q. let yes = c.is_zero-2.ensures.1 q in let no = c.if-not-is_zero-2.true in absurd (cc))

pub returns : goal.returns
returns c = null_value c.args.c c.args.r c.args.s c.comparison_range.result c.comparison_range.ensures (c.is_zero.ensures.0 c.if-not-is_zero.false)
    (c.is_zero-2.ensures.0 c.if-not-is_zero-2.false)
