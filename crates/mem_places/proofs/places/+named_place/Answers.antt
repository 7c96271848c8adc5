use Rattle.std.proofs.Common.{◌≡◌, FitsSigned, pos, Some, true, false, rules, sym, ap, ◌∙◌, subst}
use Rattle.std.specs.Prelude.{IfSome}
use mir.Syntax.{w128}
use Rattle.std.proofs.lemmas.Int.{to_z-of_z}
use Rattle.c_syntax.specs.declared.operator.TBinaryOp.{TBinaryOp}
use Rattle.c_syntax.specs.declared.operator.TBinaryOp.TheVariants as binaries
use Rattle.csharp.specs.Trees.{Binary, csexpr_tree}
use Rattle.csharp.specs.declared.expression.CsExpr.{CsExpr}
use Rattle.csharp.proofs.CodeTrees.{csexpr_address, csexpr_binary}
use Rattle.mem_places.specs.Places.{IsPlaceOf, IsUnitOf, NamesPlace}
use Rattle.mem_places.proofs.Moving.{address_place, address_name, found_place, found_name, plus_moves, turned_moves, minus_moves}
use Rattle.mem_places.proofs.places.+named_place.Goals as goal

pub returns-in-Address-clause-place : goal.returns-in-Address-clause-place
returns-in-Address-clause-place t c =
    subst (λ e. IsPlaceOf e c.in-Address.object (pos 8)) (sym (ap csexpr_tree c.in-Address.is ∙ csexpr_address c.in-Address.object)) (address_place c.in-Address.object)

pub returns-in-Address-clause-named : goal.returns-in-Address-clause-named
returns-in-Address-clause-named t c =
    subst (λ e. NamesPlace e (Some (record { object = c.in-Address.object; unit = pos 8 }))) (sym (ap csexpr_tree c.in-Address.is ∙ csexpr_address c.in-Address.object)) (address_name c.in-Address.object)

pub returns-in-PointerPlusInt-clause-place : goal.returns-in-PointerPlusInt-clause-place
returns-in-PointerPlusInt-clause-place t c =
    let el = c.in-PointerPlusInt.element in let base = csexpr_tree c.deref.result.now in let count = csexpr_tree c.deref-in-PointerPlusInt.result.now in
    let u = c.step_unit.result in let fits : FitsSigned w128 c.step_unit.result = search rules in
    let unit = subst (IsUnitOf el count) (sym (to_z-of_z w128 u fits)) c.step_unit.ensures in
    let tree : csexpr_tree c.args.e.now ≡ Binary (binaries.PointerPlusInt el) base count =
    ap csexpr_tree c.in-Binary.is ∙ csexpr_binary c.in-Binary.op c.in-Binary.left c.in-Binary.right
    ∙ ap (λ (op : TBinaryOp). Binary op (csexpr_tree c.in-Binary.left.value) (csexpr_tree c.in-Binary.right.value)) c.in-PointerPlusInt.is
    ∙ ap (λ (e : CsExpr). Binary (binaries.PointerPlusInt el) (csexpr_tree e) (csexpr_tree c.in-Binary.right.value)) (sym c.deref.ensures)
    ∙ ap (λ (e : CsExpr). Binary (binaries.PointerPlusInt el) base (csexpr_tree e)) (sym c.deref-in-PointerPlusInt.ensures) in
    subst (λ e. IfSome c.moved.result (λ p. IsPlaceOf e p.object p.unit)) (sym tree)
    (found_place (Binary (binaries.PointerPlusInt el) base count) base count el false (plus_moves el base count) _ unit c.named_place.result c.moved.result c.named_place.ensures.place c.moved.ensures)

pub returns-in-PointerPlusInt-clause-named : goal.returns-in-PointerPlusInt-clause-named
returns-in-PointerPlusInt-clause-named t c =
    let el = c.in-PointerPlusInt.element in let base = csexpr_tree c.deref.result.now in let count = csexpr_tree c.deref-in-PointerPlusInt.result.now in
    let u = c.step_unit.result in let fits : FitsSigned w128 c.step_unit.result = search rules in
    let unit = subst (IsUnitOf el count) (sym (to_z-of_z w128 u fits)) c.step_unit.ensures in
    let tree : csexpr_tree c.args.e.now ≡ Binary (binaries.PointerPlusInt el) base count =
    ap csexpr_tree c.in-Binary.is ∙ csexpr_binary c.in-Binary.op c.in-Binary.left c.in-Binary.right
    ∙ ap (λ (op : TBinaryOp). Binary op (csexpr_tree c.in-Binary.left.value) (csexpr_tree c.in-Binary.right.value)) c.in-PointerPlusInt.is
    ∙ ap (λ (e : CsExpr). Binary (binaries.PointerPlusInt el) (csexpr_tree e) (csexpr_tree c.in-Binary.right.value)) (sym c.deref.ensures)
    ∙ ap (λ (e : CsExpr). Binary (binaries.PointerPlusInt el) base (csexpr_tree e)) (sym c.deref-in-PointerPlusInt.ensures) in
    subst (λ e. NamesPlace e c.moved.result) (sym tree)
    (found_name (Binary (binaries.PointerPlusInt el) base count) base count el false (plus_moves el base count) _ unit c.named_place.result c.moved.result c.named_place.ensures.named c.moved.ensures)

pub returns-in-IntPlusPointer-clause-place : goal.returns-in-IntPlusPointer-clause-place
returns-in-IntPlusPointer-clause-place t c =
    let el = c.in-IntPlusPointer.element in let base = csexpr_tree c.deref-in-IntPlusPointer.result.now in let count = csexpr_tree c.deref-in-IntPlusPointer-2.result.now in
    let u = c.step_unit-in-IntPlusPointer.result in let fits : FitsSigned w128 c.step_unit-in-IntPlusPointer.result = search rules in
    let unit = subst (IsUnitOf el count) (sym (to_z-of_z w128 u fits)) c.step_unit-in-IntPlusPointer.ensures in
    let tree : csexpr_tree c.args.e.now ≡ Binary (binaries.IntPlusPointer el) count base =
    ap csexpr_tree c.in-Binary.is ∙ csexpr_binary c.in-Binary.op c.in-Binary.left c.in-Binary.right
    ∙ ap (λ (op : TBinaryOp). Binary op (csexpr_tree c.in-Binary.left.value) (csexpr_tree c.in-Binary.right.value)) c.in-IntPlusPointer.is
    ∙ ap (λ (e : CsExpr). Binary (binaries.IntPlusPointer el) (csexpr_tree e) (csexpr_tree c.in-Binary.right.value)) (sym c.deref-in-IntPlusPointer-2.ensures)
    ∙ ap (λ (e : CsExpr). Binary (binaries.IntPlusPointer el) count (csexpr_tree e)) (sym c.deref-in-IntPlusPointer.ensures) in
    subst (λ e. IfSome c.moved-in-IntPlusPointer.result (λ p. IsPlaceOf e p.object p.unit)) (sym tree)
    (found_place (Binary (binaries.IntPlusPointer el) count base) base count el false (turned_moves el count base) _ unit c.named_place-in-IntPlusPointer.result c.moved-in-IntPlusPointer.result c.named_place-in-IntPlusPointer.ensures.place c.moved-in-IntPlusPointer.ensures)

pub returns-in-IntPlusPointer-clause-named : goal.returns-in-IntPlusPointer-clause-named
returns-in-IntPlusPointer-clause-named t c =
    let el = c.in-IntPlusPointer.element in let base = csexpr_tree c.deref-in-IntPlusPointer.result.now in let count = csexpr_tree c.deref-in-IntPlusPointer-2.result.now in
    let u = c.step_unit-in-IntPlusPointer.result in let fits : FitsSigned w128 c.step_unit-in-IntPlusPointer.result = search rules in
    let unit = subst (IsUnitOf el count) (sym (to_z-of_z w128 u fits)) c.step_unit-in-IntPlusPointer.ensures in
    let tree : csexpr_tree c.args.e.now ≡ Binary (binaries.IntPlusPointer el) count base =
    ap csexpr_tree c.in-Binary.is ∙ csexpr_binary c.in-Binary.op c.in-Binary.left c.in-Binary.right
    ∙ ap (λ (op : TBinaryOp). Binary op (csexpr_tree c.in-Binary.left.value) (csexpr_tree c.in-Binary.right.value)) c.in-IntPlusPointer.is
    ∙ ap (λ (e : CsExpr). Binary (binaries.IntPlusPointer el) (csexpr_tree e) (csexpr_tree c.in-Binary.right.value)) (sym c.deref-in-IntPlusPointer-2.ensures)
    ∙ ap (λ (e : CsExpr). Binary (binaries.IntPlusPointer el) count (csexpr_tree e)) (sym c.deref-in-IntPlusPointer.ensures) in
    subst (λ e. NamesPlace e c.moved-in-IntPlusPointer.result) (sym tree)
    (found_name (Binary (binaries.IntPlusPointer el) count base) base count el false (turned_moves el count base) _ unit c.named_place-in-IntPlusPointer.result c.moved-in-IntPlusPointer.result c.named_place-in-IntPlusPointer.ensures.named c.moved-in-IntPlusPointer.ensures)

pub returns-in-PointerMinusInt-clause-place : goal.returns-in-PointerMinusInt-clause-place
returns-in-PointerMinusInt-clause-place t c =
    let el = c.in-PointerMinusInt.element in let base = csexpr_tree c.deref-in-PointerMinusInt.result.now in let count = csexpr_tree c.deref-in-PointerMinusInt-2.result.now in
    let u = c.step_unit-in-PointerMinusInt.result in let fits : FitsSigned w128 c.step_unit-in-PointerMinusInt.result = search rules in
    let unit = subst (IsUnitOf el count) (sym (to_z-of_z w128 u fits)) c.step_unit-in-PointerMinusInt.ensures in
    let tree : csexpr_tree c.args.e.now ≡ Binary (binaries.PointerMinusInt el) base count =
    ap csexpr_tree c.in-Binary.is ∙ csexpr_binary c.in-Binary.op c.in-Binary.left c.in-Binary.right
    ∙ ap (λ (op : TBinaryOp). Binary op (csexpr_tree c.in-Binary.left.value) (csexpr_tree c.in-Binary.right.value)) c.in-PointerMinusInt.is
    ∙ ap (λ (e : CsExpr). Binary (binaries.PointerMinusInt el) (csexpr_tree e) (csexpr_tree c.in-Binary.right.value)) (sym c.deref-in-PointerMinusInt.ensures)
    ∙ ap (λ (e : CsExpr). Binary (binaries.PointerMinusInt el) base (csexpr_tree e)) (sym c.deref-in-PointerMinusInt-2.ensures) in
    subst (λ e. IfSome c.moved-in-PointerMinusInt.result (λ p. IsPlaceOf e p.object p.unit)) (sym tree)
    (found_place (Binary (binaries.PointerMinusInt el) base count) base count el true (minus_moves el base count) _ unit c.named_place-in-PointerMinusInt.result c.moved-in-PointerMinusInt.result c.named_place-in-PointerMinusInt.ensures.place c.moved-in-PointerMinusInt.ensures)

pub returns-in-PointerMinusInt-clause-named : goal.returns-in-PointerMinusInt-clause-named
returns-in-PointerMinusInt-clause-named t c =
    let el = c.in-PointerMinusInt.element in let base = csexpr_tree c.deref-in-PointerMinusInt.result.now in let count = csexpr_tree c.deref-in-PointerMinusInt-2.result.now in
    let u = c.step_unit-in-PointerMinusInt.result in let fits : FitsSigned w128 c.step_unit-in-PointerMinusInt.result = search rules in
    let unit = subst (IsUnitOf el count) (sym (to_z-of_z w128 u fits)) c.step_unit-in-PointerMinusInt.ensures in
    let tree : csexpr_tree c.args.e.now ≡ Binary (binaries.PointerMinusInt el) base count =
    ap csexpr_tree c.in-Binary.is ∙ csexpr_binary c.in-Binary.op c.in-Binary.left c.in-Binary.right
    ∙ ap (λ (op : TBinaryOp). Binary op (csexpr_tree c.in-Binary.left.value) (csexpr_tree c.in-Binary.right.value)) c.in-PointerMinusInt.is
    ∙ ap (λ (e : CsExpr). Binary (binaries.PointerMinusInt el) (csexpr_tree e) (csexpr_tree c.in-Binary.right.value)) (sym c.deref-in-PointerMinusInt.ensures)
    ∙ ap (λ (e : CsExpr). Binary (binaries.PointerMinusInt el) base (csexpr_tree e)) (sym c.deref-in-PointerMinusInt-2.ensures) in
    subst (λ e. NamesPlace e c.moved-in-PointerMinusInt.result) (sym tree)
    (found_name (Binary (binaries.PointerMinusInt el) base count) base count el true (minus_moves el base count) _ unit c.named_place-in-PointerMinusInt.result c.moved-in-PointerMinusInt.result c.named_place-in-PointerMinusInt.ensures.named c.moved-in-PointerMinusInt.ensures)
