use Rattle.std.proofs.Common.{sym, subst}
use Rattle.c_syntax.specs.declared.operator.Arithmetic.{Arithmetic}
use Rattle.c_syntax.specs.declared.operator.TBinaryOp.TheVariants.{Arithmetic as Arith}
use Rattle.mem_temps.specs.Checks.{IsExact}
use Rattle.mem_temps.proofs.Exacted.{exact_product, exact_quotient, exact_remainder, exact_sum, exact_difference}
use Rattle.mem_temps.proofs.exacts.exact_arithmetic.Goals as goal

pub returns-in-Multiply : goal.returns-in-Multiply
returns-in-Multiply c = subst (λ (x : Arithmetic). IsExact (Arith x c.args.t) c.args.r c.args.s c.typed_range.result) (sym c.in-Multiply.is)
    (exact_product c.args.t c.args.r c.args.s c.typed_range.result (c.typed_range.ensures.holds, c.typed_range.ensures.point, c.typed_range.ensures.plain))

pub returns-in-Divide : goal.returns-in-Divide
returns-in-Divide c = subst (λ (x : Arithmetic). IsExact (Arith x c.args.t) c.args.r c.args.s c.typed_range-in-Divide.result) (sym c.in-Divide.is)
    (exact_quotient c.args.t c.args.r c.args.s c.typed_range-in-Divide.result (c.typed_range-in-Divide.ensures.holds, c.typed_range-in-Divide.ensures.point, c.typed_range-in-Divide.ensures.plain))

pub returns-in-Remainder : goal.returns-in-Remainder
returns-in-Remainder c = subst (λ (x : Arithmetic). IsExact (Arith x c.args.t) c.args.r c.args.s c.typed_range-in-Remainder.result) (sym c.in-Remainder.is)
    (exact_remainder c.args.t c.args.r c.args.s c.typed_range-in-Remainder.result (c.typed_range-in-Remainder.ensures.holds, c.typed_range-in-Remainder.ensures.point, c.typed_range-in-Remainder.ensures.plain))

pub returns-in-Add : goal.returns-in-Add
returns-in-Add c = subst (λ (x : Arithmetic). IsExact (Arith x c.args.t) c.args.r c.args.s c.typed_range-in-Add.result) (sym c.in-Add.is)
    (exact_sum c.args.t c.args.r c.args.s c.typed_range-in-Add.result (c.typed_range-in-Add.ensures.holds, c.typed_range-in-Add.ensures.point, c.typed_range-in-Add.ensures.plain))

pub returns-in-Subtract : goal.returns-in-Subtract
returns-in-Subtract c = subst (λ (x : Arithmetic). IsExact (Arith x c.args.t) c.args.r c.args.s c.typed_range-in-Subtract.result) (sym c.in-Subtract.is)
    (exact_difference c.args.t c.args.r c.args.s c.typed_range-in-Subtract.result (c.typed_range-in-Subtract.ensures.holds, c.typed_range-in-Subtract.ensures.point, c.typed_range-in-Subtract.ensures.plain))
