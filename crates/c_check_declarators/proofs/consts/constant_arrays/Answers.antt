use Rattle.std.proofs.Common.{◌≡◌, ap, sym, ◌∙◌, false}
use Rattle.std.specs.Prelude.{if◌then◌else◌, ◌||◌}
use Rattle.c_syntax.specs.declared.types.Target.{Target}
use Rattle.c_syntax.specs.Types.{ctype_tree}
use Rattle.c_syntax.proofs.TypeTrees.{ctype_array}
use Rattle.c_layout.specs.WellTyped.{is_array}
use Rattle.c_typing.specs.Specifiers.{with_const_elements}
use Rattle.c_check_declarators.specs.Arrays.{arrays_of}
use Rattle.c_check_declarators.proofs.Arrays.{arrays_none, const_inside, no_array, not_array_tree, or_true, or_false}
use Rattle.c_check_declarators.proofs.consts.constant_arrays.Goals as goal
use Rattle.c_check_declarators.proofs.consts.constant_arrays.Goals.{then-element_const, else-element_const}

pub inward-init : goal.inward-init
inward-init c =
    let ty = ctype_tree c.args.ty.now in
    let whole = with_const_elements ty c.args.is_const in
    let flag = if is_array ty then false else (false || c.args.is_const) in
    sym (ap (λ counts. arrays_of counts whole flag) c.new-counts.ensures.items ∙ arrays_none whole flag)

pub inward-preserved : goal.inward-preserved
inward-preserved c =
    let const = c.args.is_const in
    let of = c.in-Array.of in
    let counts = c.inward.counts.items in
    c.inward.invariant
    ∙ ap (λ ty. arrays_of counts (with_const_elements ty const) (if is_array ty then false else (c.inward.element_const || const))) (ap ctype_tree c.in-Array.is ∙ ctype_array of c.in-Array.n)
    ∙ const_inside counts (ctype_tree of.value.ty) of.value.is_const const c.in-Array.n
    ∙ ap (λ items. arrays_of items (with_const_elements (ctype_tree of.value.ty) const) (if is_array (ctype_tree of.value.ty) then false else (of.value.is_const || const))) (sym c.in_ok-push.ensures.items)
    ∙ ap (λ (v : Target). arrays_of c.push.new.self.items (with_const_elements (ctype_tree v.ty) const) (if is_array (ctype_tree v.ty) then false else (of.value.is_const || const))) (sym c.deref-in-Array.ensures)
    ∙ ap (λ (v : Target). arrays_of c.push.new.self.items (with_const_elements (ctype_tree c.deref-in-Array.result.now.ty) const) (if is_array (ctype_tree c.deref-in-Array.result.now.ty) then false else (v.is_const || const))) (sym c.deref.ensures)

pub returns : goal.returns
returns c =
    let const = c.args.is_const in
    let element = ctype_tree c.inward.element.now in
    let counts = c.inward.counts.items in
    let plain : is_array element ≡ false = not_array_tree c.inward.element.now c.in_default.not-Array in
    let flag : c.if-element_const.arrays_of ≡ (c.inward.element_const || const) =
    elim c.if-element_const.branch [ then-element_const w ↦ or_true const w.if-element_const.true (w.arrays_of-is ∙ w.if-element_const.true) | else-element_const w ↦ or_false const w.if-element_const.false w.arrays_of-is ] in
    c.in_ok-arrays.ensures ∙ ap (λ ty. arrays_of counts ty c.if-element_const.arrays_of) (c.in_ok-element.ensures ∙ sym (no_array element const plain))
    ∙ ap (arrays_of counts (with_const_elements element const)) (flag ∙ ap (λ b. if b then false else (c.inward.element_const || const)) (sym plain))
    ∙ sym c.inward.invariant
