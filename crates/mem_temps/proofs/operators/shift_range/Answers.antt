use Rattle.std.proofs.Common.{sym, subst}
use Rattle.num_api.specs.declared.expr.NOp.{NOp}
use Rattle.num_api.specs.declared.message.Range.{Range}
use Rattle.num_api.specs.Ranges.{InRange}
use Rattle.mem_temps.proofs.Amounts.{amount_in}
use Rattle.mem_temps.specs.Found.{IsFound}
use Rattle.mem_temps.proofs.Results.{wrapped_shift, any_shift}
use Rattle.mem_temps.proofs.operators.shift_range.Goals as goal

pub returns-then-not-lies_in : goal.returns-then-not-lies_in
returns-then-not-lies_in c =
    any_shift c.args.way c.args.t c.args.r c.args.s c.all.result c.all.ensures (λ h. let yes = c.lies_in.ensures.1 h in let no = c.if-not-lies_in.true in absurd (cc))

pub returns : goal.returns
returns c =
    wrapped_shift c.args.way c.args.t c.args.r c.args.s c.meet-amounts.result c.typed_range.result c.wrap_range.result.range c.wrap_range.result.way
    (subst (λ (o : NOp). IsFound o c.args.t c.args.r c.meet-amounts.result c.typed_range.result) c.shift_operator.ensures
    (c.typed_range.ensures.holds, c.typed_range.ensures.point, c.typed_range.ensures.plain))
    c.wrap_range.ensures (c.lies_in.ensures.0 c.if-not-lies_in.false)
    (λ k i h. c.meet-amounts.ensures.holds k i (subst (λ (x : Range). InRange x k) (sym c.amounts.ensures) (amount_in c.args.t k h)))
    c.meet-amounts.ensures.first
