use Rattle.std.proofs.Common.{sym, subst}
use Rattle.c_syntax.specs.declared.operator.TUnaryOp.{TUnaryOp}
use Rattle.mem_temps.specs.Operators.{IsUnary}
use Rattle.mem_temps.proofs.Valued.{plus_range, minus_range, turned_range, not_range}
use Rattle.mem_temps.proofs.operators.unary_value.Goals as goal

pub returns-in-Plus : goal.returns-in-Plus
returns-in-Plus c = subst (λ (op : TUnaryOp). IsUnary op c.args.r c.args.r) (sym c.in-Plus.is) (plus_range c.in-Plus.field-0 c.args.r)

pub returns-in-Minus : goal.returns-in-Minus
returns-in-Minus c = subst (λ (op : TUnaryOp). IsUnary op c.args.r c.wrap_range.result.range) (sym c.in-Minus.is)
    (minus_range c.in-Minus.t c.args.r c.unary_range.result c.wrap_range.result.range c.wrap_range.result.way
    (c.unary_range.ensures.holds, c.unary_range.ensures.point, c.unary_range.ensures.plain) c.wrap_range.ensures)

pub returns-in-Complement : goal.returns-in-Complement
returns-in-Complement c = subst (λ (op : TUnaryOp). IsUnary op c.args.r c.complement_range.result) (sym c.in-Complement.is)
    (turned_range c.in-Complement.t c.args.r c.complement_range.result c.complement_range.ensures)

pub returns-in-Not : goal.returns-in-Not
returns-in-Not c = subst (λ (op : TUnaryOp). IsUnary op c.args.r c.wrap_range-in-Not.result.range) (sym c.in-Not.is)
    (not_range c.args.r c.unary_range-in-Not.result c.wrap_range-in-Not.result.range c.wrap_range-in-Not.result.way
    (c.unary_range-in-Not.ensures.holds, c.unary_range-in-Not.ensures.point, c.unary_range-in-Not.ensures.plain) c.wrap_range-in-Not.ensures)
