use Rattle.std.proofs.Common.{sym, subst, ap, ◌∙◌}
use Rattle.std.specs.Prelude.{not}
use Rattle.c_syntax.specs.declared.operator.TUnaryOp.{TUnaryOp}
use Rattle.c_syntax.specs.declared.operator.TBinaryOp.{TBinaryOp}
use Rattle.csharp.specs.Trees.{Unary, Binary, csexpr_tree}
use Rattle.csharp.specs.declared.expression.CsExpr.{CsExpr}
use Rattle.csharp.proofs.CodeTrees.{csexpr_unary, csexpr_binary, csexpr_convert}
use Rattle.mem_temps.specs.Cuts.{IsTestCut, IsComparisonCut}
use Rattle.mem_temps.proofs.Testing.{comparison_cut, negation_cut, test_uncut, IsNoTest}
use Rattle.mem_temps.proofs.truths.+cut_by_test.Goals as goal

pub returns-in-Not : goal.returns-in-Not
returns-in-Not t c =
    let own = csexpr_tree c.in-Unary.operand.value in
    subst (λ e. IsTestCut c.args.ranges.now e c.args.truth c.cut_by_test.result c.cut_by_test.new.ranges)
    (sym (ap csexpr_tree c.in-Unary.is ∙ csexpr_unary c.in-Unary.op c.in-Unary.operand ∙ ap (λ (o : TUnaryOp). Unary o own) c.in-Not.is))
    (negation_cut c.args.ranges.now c.cut_by_test.new.ranges own c.args.truth c.cut_by_test.result
    (subst (λ (x : CsExpr). IsTestCut c.args.ranges.now (csexpr_tree x) (not c.args.truth) c.cut_by_test.result c.cut_by_test.new.ranges) c.deref.ensures c.cut_by_test.ensures))

pub returns-in-CompareInts : goal.returns-in-CompareInts
returns-in-CompareInts t c =
    let left = csexpr_tree c.in-Binary.left.value in let right = csexpr_tree c.in-Binary.right.value in
    let rs = c.args.ranges.now in let new = c.cut_comparison.new.ranges in
    subst (λ e. IsTestCut rs e c.args.truth c.cut_comparison.result new)
    (sym (ap csexpr_tree c.in-Binary.is ∙ csexpr_binary c.in-Binary.op c.in-Binary.left c.in-Binary.right ∙ ap (λ (o : TBinaryOp). Binary o left right) c.in-CompareInts.is))
    (comparison_cut rs new c.in-CompareInts.field-1 left right c.args.truth c.cut_comparison.result c.in-CompareInts.c
    (subst (λ (x : CsExpr). IsComparisonCut rs c.in-CompareInts.c (csexpr_tree x) right c.args.truth c.cut_comparison.result new) c.deref-in-CompareInts.ensures
    (subst (λ (x : CsExpr). IsComparisonCut rs c.in-CompareInts.c (csexpr_tree c.deref-in-CompareInts.result.now) (csexpr_tree x) c.args.truth c.cut_comparison.result new)
    c.deref-in-CompareInts-2.ensures c.cut_comparison.ensures)))

pub returns-in-Plus : goal.returns-in-Plus
returns-in-Plus t c =
    let own = csexpr_tree c.in-Unary.operand.value in
    let tree = sym (ap csexpr_tree c.in-Unary.is ∙ csexpr_unary c.in-Unary.op c.in-Unary.operand ∙ ap (λ (o : TUnaryOp). Unary o own) c.in-Plus.is) in
    test_uncut c.args.ranges.now (csexpr_tree c.args.e.now) c.args.truth (subst IsNoTest tree tt)

pub returns-in-Minus : goal.returns-in-Minus
returns-in-Minus t c =
    let own = csexpr_tree c.in-Unary.operand.value in
    let tree = sym (ap csexpr_tree c.in-Unary.is ∙ csexpr_unary c.in-Unary.op c.in-Unary.operand ∙ ap (λ (o : TUnaryOp). Unary o own) c.in-Minus.is) in
    test_uncut c.args.ranges.now (csexpr_tree c.args.e.now) c.args.truth (subst IsNoTest tree tt)

pub returns-in-Complement : goal.returns-in-Complement
returns-in-Complement t c =
    let own = csexpr_tree c.in-Unary.operand.value in
    let tree = sym (ap csexpr_tree c.in-Unary.is ∙ csexpr_unary c.in-Unary.op c.in-Unary.operand ∙ ap (λ (o : TUnaryOp). Unary o own) c.in-Complement.is) in
    test_uncut c.args.ranges.now (csexpr_tree c.args.e.now) c.args.truth (subst IsNoTest tree tt)

pub returns-in-Arithmetic : goal.returns-in-Arithmetic
returns-in-Arithmetic t c =
    let left = csexpr_tree c.in-Binary.left.value in let right = csexpr_tree c.in-Binary.right.value in
    let tree = sym (ap csexpr_tree c.in-Binary.is ∙ csexpr_binary c.in-Binary.op c.in-Binary.left c.in-Binary.right ∙ ap (λ (o : TBinaryOp). Binary o left right) c.in-Arithmetic.is) in
    test_uncut c.args.ranges.now (csexpr_tree c.args.e.now) c.args.truth (subst IsNoTest tree tt)

pub returns-in-Shift : goal.returns-in-Shift
returns-in-Shift t c =
    let left = csexpr_tree c.in-Binary.left.value in let right = csexpr_tree c.in-Binary.right.value in
    let tree = sym (ap csexpr_tree c.in-Binary.is ∙ csexpr_binary c.in-Binary.op c.in-Binary.left c.in-Binary.right ∙ ap (λ (o : TBinaryOp). Binary o left right) c.in-Shift.is) in
    test_uncut c.args.ranges.now (csexpr_tree c.args.e.now) c.args.truth (subst IsNoTest tree tt)

pub returns-in-ComparePointers : goal.returns-in-ComparePointers
returns-in-ComparePointers t c =
    let left = csexpr_tree c.in-Binary.left.value in let right = csexpr_tree c.in-Binary.right.value in
    let tree = sym (ap csexpr_tree c.in-Binary.is ∙ csexpr_binary c.in-Binary.op c.in-Binary.left c.in-Binary.right ∙ ap (λ (o : TBinaryOp). Binary o left right) c.in-ComparePointers.is) in
    test_uncut c.args.ranges.now (csexpr_tree c.args.e.now) c.args.truth (subst IsNoTest tree tt)

pub returns-in-PointerPlusInt : goal.returns-in-PointerPlusInt
returns-in-PointerPlusInt t c =
    let left = csexpr_tree c.in-Binary.left.value in let right = csexpr_tree c.in-Binary.right.value in
    let tree = sym (ap csexpr_tree c.in-Binary.is ∙ csexpr_binary c.in-Binary.op c.in-Binary.left c.in-Binary.right ∙ ap (λ (o : TBinaryOp). Binary o left right) c.in-PointerPlusInt.is) in
    test_uncut c.args.ranges.now (csexpr_tree c.args.e.now) c.args.truth (subst IsNoTest tree tt)

pub returns-in-IntPlusPointer : goal.returns-in-IntPlusPointer
returns-in-IntPlusPointer t c =
    let left = csexpr_tree c.in-Binary.left.value in let right = csexpr_tree c.in-Binary.right.value in
    let tree = sym (ap csexpr_tree c.in-Binary.is ∙ csexpr_binary c.in-Binary.op c.in-Binary.left c.in-Binary.right ∙ ap (λ (o : TBinaryOp). Binary o left right) c.in-IntPlusPointer.is) in
    test_uncut c.args.ranges.now (csexpr_tree c.args.e.now) c.args.truth (subst IsNoTest tree tt)

pub returns-in-PointerMinusInt : goal.returns-in-PointerMinusInt
returns-in-PointerMinusInt t c =
    let left = csexpr_tree c.in-Binary.left.value in let right = csexpr_tree c.in-Binary.right.value in
    let tree = sym (ap csexpr_tree c.in-Binary.is ∙ csexpr_binary c.in-Binary.op c.in-Binary.left c.in-Binary.right ∙ ap (λ (o : TBinaryOp). Binary o left right) c.in-PointerMinusInt.is) in
    test_uncut c.args.ranges.now (csexpr_tree c.args.e.now) c.args.truth (subst IsNoTest tree tt)

pub returns-in-PointerMinusPointer : goal.returns-in-PointerMinusPointer
returns-in-PointerMinusPointer t c =
    let left = csexpr_tree c.in-Binary.left.value in let right = csexpr_tree c.in-Binary.right.value in
    let tree = sym (ap csexpr_tree c.in-Binary.is ∙ csexpr_binary c.in-Binary.op c.in-Binary.left c.in-Binary.right ∙ ap (λ (o : TBinaryOp). Binary o left right) c.in-PointerMinusPointer.is) in
    test_uncut c.args.ranges.now (csexpr_tree c.args.e.now) c.args.truth (subst IsNoTest tree tt)

pub returns-in-Convert : goal.returns-in-Convert
returns-in-Convert t c =
    let tree = sym (ap csexpr_tree c.in-Convert.is ∙ csexpr_convert c.in-Convert.ty c.in-Convert.operand) in
    test_uncut c.args.ranges.now (csexpr_tree c.args.e.now) c.args.truth (subst IsNoTest tree tt)
