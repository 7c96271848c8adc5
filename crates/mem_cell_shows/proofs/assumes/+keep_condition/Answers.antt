use Rattle.std.proofs.Common.{◌∙◌, ap, not, subst, sym}
use Rattle.std.proofs.lemmas.Result.{IfOk-weaker}
use Rattle.machine_nums.specs.MExprs.{mexpr_tree}
use Rattle.csharp.specs.Trees.{Binary, Unary, csexpr_tree}
use Rattle.csharp.specs.declared.expression.CsExpr.{CsExpr}
use Rattle.csharp.proofs.CodeTrees.{csexpr_binary, csexpr_unary}
use Rattle.mem_cell_exprs.specs.Exprs.{IsNumberFor}
use Rattle.mem_cell_exprs.proofs.Moves.{numbered-of}
use Rattle.mem_cell_exprs.proofs.Options.{some-at}
use Rattle.mem_cell_shows.specs.Changes.{HasTruth}
use Rattle.mem_cell_shows.specs.Compares.{IsCompared}
use Rattle.mem_cell_shows.proofs.Assuming.{not-has, number-has}
use Rattle.mem_cell_shows.proofs.Keeping.{all-kept}
use Rattle.mem_cell_shows.proofs.assumes.+keep_condition.Goals as goal

pub returns-in-Some-clause-stands : goal.returns-in-Some-clause-stands
returns-in-Some-clause-stands g t c =
    let known = c.args.known.now in let e = csexpr_tree c.args.e.now in let m = c.in-Some.m in
    let number : IsNumberFor known.types e (mexpr_tree m) =
    subst (λ types. IsNumberFor types e (mexpr_tree m)) c.as_slice.ensures
    (some-at (λ x. IsNumberFor c.as_slice.result.now e (mexpr_tree x)) c.in_ok-m.field-0 m c.in-Some.is c.in_ok-m.ensures) in
    IfOk-weaker c.keep_number.result _ _
    (λ live stands objects s st h. stands objects s st (number-has known.types e (mexpr_tree m) c.args.truth st.v s number (numbered-of g.D.Oracle.admits known objects s st) h))
    c.keep_number.ensures.stands

pub returns-in-Not-clause-stands : goal.returns-in-Not-clause-stands
returns-in-Not-clause-stands g t c =
    let own = csexpr_tree c.in-Unary.operand.value in
    let tree = ap csexpr_tree c.in-Unary.is ∙ csexpr_unary c.in-Unary.op c.in-Unary.operand ∙ ap (λ o. Unary o own) c.in-Not.is in
    IfOk-weaker c.keep_condition.result _ _
    (λ live stands objects s st h. stands objects s st (subst (λ (x : CsExpr). HasTruth (csexpr_tree x) (not c.args.truth) s) (sym c.deref.ensures)
    (not-has own c.args.truth s (subst (λ x. HasTruth x c.args.truth s) tree h)))) c.keep_condition.ensures.stands

pub returns-in-Plus-clause-stands : goal.returns-in-Plus-clause-stands
returns-in-Plus-clause-stands g t c = λ objects s st h. all-kept g.D.Oracle.admits objects c.args.known.now s st

pub returns-in-Plus-2-clause-stands : goal.returns-in-Plus-2-clause-stands
returns-in-Plus-2-clause-stands g t c = λ objects s st h. all-kept g.D.Oracle.admits objects c.args.known.now s st

pub returns-in-Plus-3-clause-stands : goal.returns-in-Plus-3-clause-stands
returns-in-Plus-3-clause-stands g t c = λ objects s st h. all-kept g.D.Oracle.admits objects c.args.known.now s st

pub returns-in-ComparePointers-clause-stands : goal.returns-in-ComparePointers-clause-stands
returns-in-ComparePointers-clause-stands g t c =
    let l = csexpr_tree c.in-Binary.left.value in let r = csexpr_tree c.in-Binary.right.value in
    let tree = ap csexpr_tree c.in-Binary.is ∙ csexpr_binary c.in-Binary.op c.in-Binary.left c.in-Binary.right ∙ ap (λ o. Binary o l r) c.in-ComparePointers.is in
    IfOk-weaker c.keep_compared.result _ _
    (λ live stands objects s st h. stands objects s st
    (subst (λ (x : CsExpr). IsCompared c.in-ComparePointers.c (csexpr_tree x) (csexpr_tree c.deref-in-ComparePointers-2.result.now) c.args.truth s) (sym c.deref-in-ComparePointers.ensures)
    (subst (λ (x : CsExpr). IsCompared c.in-ComparePointers.c l (csexpr_tree x) c.args.truth s) (sym c.deref-in-ComparePointers-2.ensures)
    (subst (λ x. HasTruth x c.args.truth s) tree h)))) c.keep_compared.ensures.stands
