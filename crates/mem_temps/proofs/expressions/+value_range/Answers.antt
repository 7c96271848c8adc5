use Rattle.std.proofs.Common.{sym, subst, ap, ◌∙◌}
use Rattle.num_api.specs.declared.message.Range.{Range}
use Rattle.csharp.specs.Trees.{CsExprTree, csexpr_tree}
use Rattle.csharp.specs.Trees as trees
use Rattle.csharp.proofs.CodeTrees.{csexpr_const, csexpr_temp, csexpr_unary, csexpr_binary, csexpr_convert}
use Rattle.csharp.specs.declared.expression.CsExpr.{CsExpr}
use Rattle.mem_temps.specs.Exprs.{IsRangeOf}
use Rattle.mem_temps.proofs.Ranged.{const_range, temp_range, unary_range, binary_range, convert_range}
use Rattle.mem_temps.proofs.expressions.+value_range.Goals as goal

pub returns-in-Const : goal.returns-in-Const
returns-in-Const t c =
    subst (λ (e : CsExprTree). IsRangeOf c.args.ranges.now e c.constant.result) (sym (ap csexpr_tree c.in-Const.is ∙ csexpr_const c.in-Const.ty c.in-Const.value))
    (subst (λ (r : Range). IsRangeOf c.args.ranges.now (trees.Const c.in-Const.ty c.in-Const.value) r) (sym c.constant.ensures)
    (const_range c.args.ranges.now c.in-Const.ty c.in-Const.value))

pub returns-in-Temp : goal.returns-in-Temp
returns-in-Temp t c =
    subst (λ (e : CsExprTree). IsRangeOf c.args.ranges.now e c.at.result) (sym (ap csexpr_tree c.in-Temp.is ∙ csexpr_temp c.in-Temp.temp))
    (subst (λ (r : Range). IsRangeOf c.args.ranges.now (trees.Temp c.in-Temp.temp) r) (sym c.at.ensures) (temp_range c.args.ranges.now c.in-Temp.temp))

pub returns-in-Unary : goal.returns-in-Unary
returns-in-Unary t c =
    subst (λ (e : CsExprTree). IsRangeOf c.args.ranges.now e c.unary_value.result) (sym (ap csexpr_tree c.in-Unary.is ∙ csexpr_unary c.in-Unary.op c.in-Unary.operand))
    (unary_range c.args.ranges.now c.in-Unary.op (csexpr_tree c.in-Unary.operand.value) c.value_range.result c.unary_value.result
    (subst (λ (x : CsExpr). IsRangeOf c.args.ranges.now (csexpr_tree x) c.value_range.result) c.deref.ensures c.value_range.ensures) c.unary_value.ensures)

pub returns-in-Binary : goal.returns-in-Binary
returns-in-Binary t c =
    subst (λ (e : CsExprTree). IsRangeOf c.args.ranges.now e c.binary_value.result)
    (sym (ap csexpr_tree c.in-Binary.is ∙ csexpr_binary c.in-Binary.op c.in-Binary.left c.in-Binary.right))
    (binary_range c.args.ranges.now c.in-Binary.op (csexpr_tree c.in-Binary.left.value) (csexpr_tree c.in-Binary.right.value) c.value_range-left.result
    c.value_range-right.result c.binary_value.result
    (subst (λ (x : CsExpr). IsRangeOf c.args.ranges.now (csexpr_tree x) c.value_range-left.result) c.deref-in-Binary.ensures c.value_range-left.ensures)
    (subst (λ (x : CsExpr). IsRangeOf c.args.ranges.now (csexpr_tree x) c.value_range-right.result) c.deref-in-Binary-2.ensures c.value_range-right.ensures)
    c.binary_value.ensures)

pub returns-in-Convert : goal.returns-in-Convert
returns-in-Convert t c =
    subst (λ (e : CsExprTree). IsRangeOf c.args.ranges.now e c.wrap_range.result.range)
    (sym (ap csexpr_tree c.in-Convert.is ∙ csexpr_convert c.in-Convert.ty c.in-Convert.operand))
    (convert_range c.args.ranges.now c.in-Convert.ty (csexpr_tree c.in-Convert.operand.value) c.value_range-in-Convert.result c.wrap_range.result.range
    c.wrap_range.result.way
    (subst (λ (x : CsExpr). IsRangeOf c.args.ranges.now (csexpr_tree x) c.value_range-in-Convert.result) c.deref-in-Convert.ensures c.value_range-in-Convert.ensures)
    c.wrap_range.ensures)
