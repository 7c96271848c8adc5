use Rattle.std.proofs.Common.{sym, subst}
use Rattle.c_syntax.specs.declared.operator.TUnaryOp.{TUnaryOp}
use Rattle.mem_temps.specs.Checks.{IsExactUnary}
use Rattle.mem_temps.proofs.Exacted.{exact_minus}
use Rattle.mem_temps.proofs.exacts.exact_unary.Goals as goal

pub returns-in-Minus : goal.returns-in-Minus
returns-in-Minus c = subst (λ (x : TUnaryOp). IsExactUnary x c.args.r c.unary_range.result) (sym c.in-Minus.is)
    (exact_minus c.in-Minus.field-0 c.args.r c.unary_range.result (c.unary_range.ensures.holds, c.unary_range.ensures.point, c.unary_range.ensures.plain))
