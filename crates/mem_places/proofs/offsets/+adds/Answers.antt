use Rattle.std.proofs.Common.{◌≡◌, true, sym, ap, ◌∙◌, subst}
use Rattle.std.proofs.lemmas.Result.{IfOk-weaker}
use Rattle.c_syntax.specs.declared.operator.TBinaryOp.{TBinaryOp}
use Rattle.c_syntax.specs.declared.operator.TBinaryOp.TheVariants as binaries
use Rattle.csharp.specs.Trees.{Binary, csexpr_tree}
use Rattle.csharp.specs.declared.expression.CsExpr.{CsExpr}
use Rattle.csharp.proofs.CodeTrees.{csexpr_binary}
use Rattle.mem_places.specs.Places.{offset_of, both_offsets, step_at, Adds}
use Rattle.mem_places.proofs.Shifting.{minus_offset}
use Rattle.mem_places.proofs.offsets.+adds.Goals as goal

pub add_steps-returns-in-PointerMinusInt : goal.add_steps-returns-in-PointerMinusInt
add_steps-returns-in-PointerMinusInt t c =
    let el = c.in-PointerMinusInt.element in let base = csexpr_tree c.deref-in-PointerMinusInt.result.now in
    let count = csexpr_tree c.deref-in-PointerMinusInt-2.result.now in
    let tree : csexpr_tree c.args.e.now ≡ Binary (binaries.PointerMinusInt el) base count =
    ap csexpr_tree c.in-Binary.is ∙ csexpr_binary c.in-Binary.op c.in-Binary.left c.in-Binary.right
    ∙ ap (λ (op : TBinaryOp). Binary op (csexpr_tree c.in-Binary.left.value) (csexpr_tree c.in-Binary.right.value)) c.in-PointerMinusInt.is
    ∙ ap (λ (e : CsExpr). Binary (binaries.PointerMinusInt el) (csexpr_tree e) (csexpr_tree c.in-Binary.right.value)) (sym c.deref-in-PointerMinusInt.ensures)
    ∙ ap (λ (e : CsExpr). Binary (binaries.PointerMinusInt el) base (csexpr_tree e)) (sym c.deref-in-PointerMinusInt-2.ensures) in
    let same : offset_of (csexpr_tree c.args.e.now) ≡ both_offsets (offset_of base) (step_at true el count) = ap offset_of tree ∙ minus_offset el base count in
    IfOk-weaker c.add_moved-in-PointerMinusInt.result _ _
    (λ all h. subst (λ o. Adds o c.args.sum.now all c.add_moved-in-PointerMinusInt.new.sum) (sym same) h) c.add_moved-in-PointerMinusInt.ensures
