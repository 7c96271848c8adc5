use Rattle.std.proofs.Common.{sym, subst}
use Rattle.c_syntax.specs.declared.operator.Shift.{Shift}
use Rattle.c_syntax.specs.declared.operator.TBinaryOp.TheVariants.{Shift as Moved}
use Rattle.num_api.specs.declared.message.Range.{Range}
use Rattle.num_api.specs.Ranges.{InRange, NoWider}
use Rattle.mem_temps.specs.Checks.{IsExact}
use Rattle.mem_temps.proofs.Amounts.{amount_in}
use Rattle.mem_temps.proofs.Exacted.{exact_shifted}
use Rattle.mem_temps.proofs.exacts.exact_shift.Goals as goal

pub returns-in-Left : goal.returns-in-Left
returns-in-Left c = subst (λ (x : Shift). IsExact (Moved x c.args.t) c.args.r c.args.s c.shifted_left.result) (sym c.in-Left.is)
    (exact_shifted c.args.t c.args.r c.args.s c.meet.result c.shifted_left.result c.shifted_left.ensures.some c.shifted_left.ensures.none
    (λ k i h. c.meet.ensures.holds k i (subst (λ (x : Range). InRange x k) (sym c.amounts.ensures) (amount_in c.args.t k h))) c.meet.ensures.first
    (subst (λ (x : Range). NoWider c.meet.result x) c.amounts.ensures c.meet.ensures.second))
