use Rattle.mem_temps.proofs.Results.{any_result}
use Rattle.mem_temps.proofs.operators.arithmetic_range.Goals as goal

pub returns-then-not-lies_in : goal.returns-then-not-lies_in
returns-then-not-lies_in c =
    any_result c.args.op c.args.t c.args.r c.args.s c.type_range.result c.type_range.ensures.value
    (λ h k. let yes = c.lies_in.ensures.1 h in let no = c.if-not-lies_in.true in absurd (cc))

pub returns-then-not-lies_in-2 : goal.returns-then-not-lies_in-2
returns-then-not-lies_in-2 c =
    any_result c.args.op c.args.t c.args.r c.args.s c.type_range-then-not-lies_in-2.result c.type_range-then-not-lies_in-2.ensures.value
    (λ h k. let yes = c.lies_in-2.ensures.1 k in let no = c.if-not-lies_in-2.true in absurd (cc))
