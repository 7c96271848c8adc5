use Rattle.std.proofs.Common.{◌∙◌, ap, false, subst, sym, true}
use Rattle.std.specs.Prelude.{IfOk, IfSome, option_map}
use Rattle.c_syntax.specs.declared.operator.TBinaryOp.TheVariants as binaries
use Rattle.machine_nums.specs.MExprs.{mexpr_tree}
use Rattle.machine_nums.specs.Machines.{Admits}
use Rattle.csharp.specs.declared.expression.CsExpr.{CsExpr}
use Rattle.mem_cell_exprs.proofs.Options.{some-at}
use Rattle.csharp.specs.Trees.{Address, Binary, Null, csexpr_tree}
use Rattle.csharp.proofs.CodeTrees.{csexpr_address, csexpr_binary, csexpr_null, csexpr_temp}
use Rattle.mem_cell_exprs.specs.Known.{IsMovedPlace, IsPlaceFor}
use Rattle.mem_cell_exprs.proofs.Made.{move-made, place-along}
use Rattle.mem_cell_exprs.proofs.Moves.{address-place, minus-parts, null-place, plus-parts, turned-parts}
use Rattle.mem_cell_exprs.proofs.places.+pointer.Goals as goal

pub returns-in_ok-at_start-in-Null : goal.returns-in_ok-at_start-in-Null
returns-in_ok-at_start-in-Null g t c =
    let p = c.in_ok-at_start-in-Null.field-0 in
    place-along g.D.Oracle.admits c.args.known.now Null (csexpr_tree c.args.e.now) _ p.set _ (option_map mexpr_tree p.offset) (ap csexpr_tree c.in-Null.is ∙ csexpr_null)
    c.in_ok-at_start-in-Null.ensures.set c.in_ok-at_start-in-Null.ensures.offset (null-place g.D.Oracle.admits c.args.known.now)

pub returns-in_ok-at_start-in-Address : goal.returns-in_ok-at_start-in-Address
returns-in_ok-at_start-in-Address g t c =
    let p = c.in_ok-at_start-in-Address.field-0 in
    place-along g.D.Oracle.admits c.args.known.now (Address c.in-Address.object) (csexpr_tree c.args.e.now) _ p.set _ (option_map mexpr_tree p.offset)
    (ap csexpr_tree c.in-Address.is ∙ csexpr_address c.in-Address.object) c.in_ok-at_start-in-Address.ensures.set c.in_ok-at_start-in-Address.ensures.offset
    (address-place g.D.Oracle.admits c.args.known.now c.in-Address.object)

pub returns-in-Temp : goal.returns-in-Temp
returns-in-Temp g t c =
    subst (λ e. IfOk c.temporary.result (λ found. IfSome found (λ p. IsPlaceFor g.D.Oracle.admits c.args.known.now e p.set (option_map mexpr_tree p.offset))))
    (sym (ap csexpr_tree c.in-Temp.is ∙ csexpr_temp c.in-Temp.temp)) c.temporary.ensures

pub returns-in_ok-moved-in-Some : goal.returns-in_ok-moved-in-Some
returns-in_ok-moved-in-Some g t c =
    let admits = g.D.Oracle.admits in let known = c.args.known.now in let l = c.in-Binary.left in let r = c.in-Binary.right in let el = c.in-PointerPlusInt.element in
    let from = c.in-Some.from in let to = c.in_ok-moved-in-Some.field-0 in
    let at : IsPlaceFor admits known (csexpr_tree l.value) from.set (option_map mexpr_tree from.offset) =
    subst (λ (x : CsExpr). IsPlaceFor admits known (csexpr_tree x) from.set (option_map mexpr_tree from.offset)) c.deref.ensures
    (some-at (λ p. IsPlaceFor admits known (csexpr_tree c.deref.result.now) p.set (option_map mexpr_tree p.offset)) c.in_ok-from-in-PointerPlusInt.field-0 from c.in-Some.is c.in_ok-from-in-PointerPlusInt.ensures) in
    move-made admits known false el (csexpr_tree c.args.e.now) (Binary (binaries.PointerPlusInt el) (csexpr_tree l.value) (csexpr_tree r.value)) (csexpr_tree l.value) (csexpr_tree r.value)
    from.set to.set (option_map mexpr_tree from.offset) (option_map mexpr_tree to.offset)
    (ap csexpr_tree c.in-Binary.is ∙ csexpr_binary c.in-Binary.op l r ∙ ap (λ o. Binary o (csexpr_tree l.value) (csexpr_tree r.value)) c.in-PointerPlusInt.is)
    (plus-parts admits known el (csexpr_tree l.value) (csexpr_tree r.value)) at c.in_ok-moved-in-Some.ensures.set
    (subst (λ (x : CsExpr). IsMovedPlace (Admits admits known.nums) known.types (csexpr_tree x) el false from.set (option_map mexpr_tree from.offset) (option_map mexpr_tree to.offset)) c.deref-in-Some.ensures c.in_ok-moved-in-Some.ensures.offset)

pub returns-in_ok-moved-in-Some-2 : goal.returns-in_ok-moved-in-Some-2
returns-in_ok-moved-in-Some-2 g t c =
    let admits = g.D.Oracle.admits in let known = c.args.known.now in let l = c.in-Binary.left in let r = c.in-Binary.right in let el = c.in-IntPlusPointer.element in
    let from = c.in-Some-2.from in let to = c.in_ok-moved-in-Some-2.field-0 in
    let at : IsPlaceFor admits known (csexpr_tree r.value) from.set (option_map mexpr_tree from.offset) =
    subst (λ (x : CsExpr). IsPlaceFor admits known (csexpr_tree x) from.set (option_map mexpr_tree from.offset)) c.deref-in-IntPlusPointer.ensures
    (some-at (λ p. IsPlaceFor admits known (csexpr_tree c.deref-in-IntPlusPointer.result.now) p.set (option_map mexpr_tree p.offset)) c.in_ok-from-in-IntPlusPointer.field-0 from c.in-Some-2.is c.in_ok-from-in-IntPlusPointer.ensures) in
    move-made admits known false el (csexpr_tree c.args.e.now) (Binary (binaries.IntPlusPointer el) (csexpr_tree l.value) (csexpr_tree r.value)) (csexpr_tree r.value) (csexpr_tree l.value)
    from.set to.set (option_map mexpr_tree from.offset) (option_map mexpr_tree to.offset)
    (ap csexpr_tree c.in-Binary.is ∙ csexpr_binary c.in-Binary.op l r ∙ ap (λ o. Binary o (csexpr_tree l.value) (csexpr_tree r.value)) c.in-IntPlusPointer.is)
    (turned-parts admits known el (csexpr_tree r.value) (csexpr_tree l.value)) at c.in_ok-moved-in-Some-2.ensures.set
    (subst (λ (x : CsExpr). IsMovedPlace (Admits admits known.nums) known.types (csexpr_tree x) el false from.set (option_map mexpr_tree from.offset) (option_map mexpr_tree to.offset)) c.deref-in-Some-2.ensures c.in_ok-moved-in-Some-2.ensures.offset)

pub returns-in_ok-moved-in-Some-3 : goal.returns-in_ok-moved-in-Some-3
returns-in_ok-moved-in-Some-3 g t c =
    let admits = g.D.Oracle.admits in let known = c.args.known.now in let l = c.in-Binary.left in let r = c.in-Binary.right in let el = c.in-PointerMinusInt.element in
    let from = c.in-Some-3.from in let to = c.in_ok-moved-in-Some-3.field-0 in
    let at : IsPlaceFor admits known (csexpr_tree l.value) from.set (option_map mexpr_tree from.offset) =
    subst (λ (x : CsExpr). IsPlaceFor admits known (csexpr_tree x) from.set (option_map mexpr_tree from.offset)) c.deref-in-PointerMinusInt.ensures
    (some-at (λ p. IsPlaceFor admits known (csexpr_tree c.deref-in-PointerMinusInt.result.now) p.set (option_map mexpr_tree p.offset)) c.in_ok-from-in-PointerMinusInt.field-0 from c.in-Some-3.is c.in_ok-from-in-PointerMinusInt.ensures) in
    move-made admits known true el (csexpr_tree c.args.e.now) (Binary (binaries.PointerMinusInt el) (csexpr_tree l.value) (csexpr_tree r.value)) (csexpr_tree l.value) (csexpr_tree r.value)
    from.set to.set (option_map mexpr_tree from.offset) (option_map mexpr_tree to.offset)
    (ap csexpr_tree c.in-Binary.is ∙ csexpr_binary c.in-Binary.op l r ∙ ap (λ o. Binary o (csexpr_tree l.value) (csexpr_tree r.value)) c.in-PointerMinusInt.is)
    (minus-parts admits known el (csexpr_tree l.value) (csexpr_tree r.value)) at c.in_ok-moved-in-Some-3.ensures.set
    (subst (λ (x : CsExpr). IsMovedPlace (Admits admits known.nums) known.types (csexpr_tree x) el true from.set (option_map mexpr_tree from.offset) (option_map mexpr_tree to.offset)) c.deref-in-Some-3.ensures c.in_ok-moved-in-Some-3.ensures.offset)
