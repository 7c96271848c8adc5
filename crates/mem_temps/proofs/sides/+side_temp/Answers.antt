use Rattle.std.proofs.Common.{◌≡◌, true, false, None, Some, sym, subst, ap, ◌∙◌}
use Rattle.c_syntax.specs.declared.operator.TUnaryOp.{TUnaryOp}
use Rattle.c_syntax.specs.declared.operator.TUnaryOp.TheVariants as unaries
use Rattle.csharp.specs.Trees.{Unary, csexpr_tree}
use Rattle.csharp.specs.declared.expression.CsExpr.{CsExpr}
use Rattle.csharp.proofs.CodeTrees.{csexpr_temp, csexpr_convert, csexpr_unary, csexpr_binary}
use Rattle.mem_temps.specs.Exprs.{IsRangeOf}
use Rattle.mem_temps.specs.Cuts.{IsSideOf}
use Rattle.mem_temps.proofs.Siding.{temp_side, converted_side, changed_side, plus_side, no_unary_side, no_binary_side}
use Rattle.mem_temps.proofs.sides.+side_temp.Goals as goal

pub returns-in-Temp : goal.returns-in-Temp
returns-in-Temp t c = subst (λ e. IsSideOf c.args.ranges.now e (Some c.in-Temp.temp)) (sym (ap csexpr_tree c.in-Temp.is ∙ csexpr_temp c.in-Temp.temp))
    (temp_side c.args.ranges.now c.in-Temp.temp)

pub returns-then-lies_in : goal.returns-then-lies_in
returns-then-lies_in t c =
    subst (λ e. IsSideOf c.args.ranges.now e c.side_temp.result) (sym (ap csexpr_tree c.in-Convert.is ∙ csexpr_convert c.in-Convert.ty c.in-Convert.operand))
    (converted_side c.args.ranges.now c.in-Convert.ty (csexpr_tree c.in-Convert.operand.value) c.value_range.result
    (subst (λ (x : CsExpr). IsRangeOf c.args.ranges.now (csexpr_tree x) c.value_range.result) c.deref.ensures c.value_range.ensures)
    c.side_temp.result (c.lies_in.ensures.0 c.if-lies_in.true)
    (subst (λ (x : CsExpr). IsSideOf c.args.ranges.now (csexpr_tree x) c.side_temp.result) c.deref-then-lies_in.ensures c.side_temp.ensures))

pub returns-else-lies_in : goal.returns-else-lies_in
returns-else-lies_in t c =
    subst (λ e. IsSideOf c.args.ranges.now e None) (sym (ap csexpr_tree c.in-Convert.is ∙ csexpr_convert c.in-Convert.ty c.in-Convert.operand))
    (changed_side c.args.ranges.now c.in-Convert.ty (csexpr_tree c.in-Convert.operand.value) c.value_range.result
    (subst (λ (x : CsExpr). IsRangeOf c.args.ranges.now (csexpr_tree x) c.value_range.result) c.deref.ensures c.value_range.ensures)
    (λ inside. let yes = c.lies_in.ensures.1 inside in let no_more : false ≡ true = sym c.if-lies_in.false ∙ yes in absurd (cc)))

pub returns-in-Plus : goal.returns-in-Plus
returns-in-Plus t c =
    let own = csexpr_tree c.in-Unary.operand.value in
    subst (λ e. IsSideOf c.args.ranges.now e c.side_temp-in-Plus.result)
    (sym (ap csexpr_tree c.in-Unary.is ∙ csexpr_unary c.in-Unary.op c.in-Unary.operand ∙ ap (λ (o : TUnaryOp). Unary o own) c.in-Plus.is))
    (plus_side c.args.ranges.now c.in-Plus.field-0 own c.side_temp-in-Plus.result
    (subst (λ (x : CsExpr). IsSideOf c.args.ranges.now (csexpr_tree x) c.side_temp-in-Plus.result) c.deref-in-Plus.ensures c.side_temp-in-Plus.ensures))

pub returns-in-Minus : goal.returns-in-Minus
returns-in-Minus t c =
    let own = csexpr_tree c.in-Unary.operand.value in
    subst (λ e. IsSideOf c.args.ranges.now e None)
    (sym (ap csexpr_tree c.in-Unary.is ∙ csexpr_unary c.in-Unary.op c.in-Unary.operand ∙ ap (λ (o : TUnaryOp). Unary o own) c.in-Minus.is))
    (no_unary_side c.args.ranges.now (unaries.Minus c.in-Minus.field-0) own (λ ty e. absurd (cc)))

pub returns-in-Complement : goal.returns-in-Complement
returns-in-Complement t c =
    let own = csexpr_tree c.in-Unary.operand.value in
    subst (λ e. IsSideOf c.args.ranges.now e None)
    (sym (ap csexpr_tree c.in-Unary.is ∙ csexpr_unary c.in-Unary.op c.in-Unary.operand ∙ ap (λ (o : TUnaryOp). Unary o own) c.in-Complement.is))
    (no_unary_side c.args.ranges.now (unaries.Complement c.in-Complement.field-0) own (λ ty e. absurd (cc)))

pub returns-in-Not : goal.returns-in-Not
returns-in-Not t c =
    let own = csexpr_tree c.in-Unary.operand.value in
    subst (λ e. IsSideOf c.args.ranges.now e None)
    (sym (ap csexpr_tree c.in-Unary.is ∙ csexpr_unary c.in-Unary.op c.in-Unary.operand ∙ ap (λ (o : TUnaryOp). Unary o own) c.in-Not.is))
    (no_unary_side c.args.ranges.now unaries.Not own (λ ty e. absurd (cc)))

pub returns-in-Binary : goal.returns-in-Binary
returns-in-Binary t c =
    subst (λ e. IsSideOf c.args.ranges.now e None)
    (sym (ap csexpr_tree c.in-Binary.is ∙ csexpr_binary c.in-Binary.op c.in-Binary.left c.in-Binary.right))
    (no_binary_side c.args.ranges.now c.in-Binary.op (csexpr_tree c.in-Binary.left.value) (csexpr_tree c.in-Binary.right.value))
