use Rattle.std.proofs.Common.{◌≡◌, subst, Some}
use Rattle.num_api.specs.declared.expr.NOp.{NOp}
use Rattle.num_api.specs.Spans.{binary_span}
use Rattle.num_api.specs.Value.{binary_value}
use Rattle.intervals.specs.Bits.{IsLogical}
use Rattle.machine_nums.proofs.Typed.{typed_under}
use Rattle.machine_nums.proofs.operators.typed_range.Goals as goal

pub returns-in-Shr-clause-holds : goal.returns-in-Shr-clause-holds
returns-in-Shr-clause-holds c = λ x y n i j e. c.shifted_range.ensures.holds x y n i j (subst (λ (o : NOp). binary_value o x y ≡ Some n) c.in-Shr.is e)

pub returns-in-Shr-clause-plain : goal.returns-in-Shr-clause-plain
returns-in-Shr-clause-plain c = λ p q u w f k g e h.
    typed_under c.args.op c.args.t c.args.r c.args.s c.shifted_range.result p q u w k e
    (λ b. c.shifted_range.ensures.plain p q u w f k g (subst (λ (o : NOp). binary_span o p q ≡ Some u) c.in-Shr.is b) h)
    (λ l i j. absurd (subst IsLogical c.in-Shr.is l))
    (λ is i. c.shifted_range.ensures.stays i)

pub returns-in_default : goal.returns-in_default
returns-in_default c = record {
  holds = c.binary_range.ensures.holds;
  point = c.binary_range.ensures.point;
  plain = λ p q u w f k g e h.
      typed_under c.args.op c.args.t c.args.r c.args.s c.binary_range.result p q u w k e
      (λ b. c.binary_range.ensures.plain p q u w f k g b h)
      (λ l i j. c.binary_range.ensures.bits c.args.t l i j)
      (λ is i. absurd (c.in_default.not-Shr is));
}
