use Rattle.std.proofs.Common.{sym, subst, ap, ◌∙◌}
use Rattle.csharp.specs.Trees.{CsExprTree, csexpr_tree}
use Rattle.csharp.proofs.CodeTrees.{csexpr_unary, csexpr_binary}
use Rattle.csharp.specs.declared.expression.CsExpr.{CsExpr}
use Rattle.mem_temps.specs.Exprs.{IsRangeOf}
use Rattle.mem_temps.specs.Checks.{IsExactOf}
use Rattle.mem_temps.proofs.Exacted.{exact_of_unary, exact_of_binary}
use Rattle.mem_temps.proofs.exacts.exact_range.Goals as goal

pub returns-in-Unary : goal.returns-in-Unary
returns-in-Unary c =
    subst (λ (e : CsExprTree). IsExactOf c.args.ranges.now e c.exact_unary.result) (sym (ap csexpr_tree c.in-Unary.is ∙ csexpr_unary c.in-Unary.op c.in-Unary.operand))
    (exact_of_unary c.args.ranges.now c.in-Unary.op (csexpr_tree c.in-Unary.operand.value) c.value_range.result c.exact_unary.result
    (subst (λ (x : CsExpr). IsRangeOf c.args.ranges.now (csexpr_tree x) c.value_range.result) c.deref.ensures c.value_range.ensures) c.exact_unary.ensures)

pub returns-in-Binary : goal.returns-in-Binary
returns-in-Binary c =
    subst (λ (e : CsExprTree). IsExactOf c.args.ranges.now e c.exact_binary.result)
    (sym (ap csexpr_tree c.in-Binary.is ∙ csexpr_binary c.in-Binary.op c.in-Binary.left c.in-Binary.right))
    (exact_of_binary c.args.ranges.now c.in-Binary.op (csexpr_tree c.in-Binary.left.value) (csexpr_tree c.in-Binary.right.value) c.value_range-left.result
    c.value_range-right.result c.exact_binary.result
    (subst (λ (x : CsExpr). IsRangeOf c.args.ranges.now (csexpr_tree x) c.value_range-left.result) c.deref-in-Binary.ensures c.value_range-left.ensures)
    (subst (λ (x : CsExpr). IsRangeOf c.args.ranges.now (csexpr_tree x) c.value_range-right.result) c.deref-in-Binary-2.ensures c.value_range-right.ensures)
    c.exact_binary.ensures)
