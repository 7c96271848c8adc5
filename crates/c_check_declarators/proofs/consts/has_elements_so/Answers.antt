use Rattle.std.proofs.Common.{◌≡◌, ap, sym, ◌∙◌, subst, Bool}
use Rattle.std.specs.Prelude.{if◌then◌else◌, ◌&&◌, not, false}
use Rattle.c_syntax.specs.declared.types.Target.{Target}
use Rattle.c_syntax.specs.Types.{ctype_tree}
use Rattle.c_syntax.proofs.TypeTrees.{ctype_array}
use Rattle.c_layout.specs.WellTyped.{is_array}
use Rattle.c_typing.specs.Specifiers.{with_const_elements}
use Rattle.c_check_declarators.proofs.Arrays.{array_so, no_array, not_array_tree}
use Rattle.c_check_declarators.proofs.consts.has_elements_so.Goals as goal

pub inward-preserved : goal.inward-preserved
inward-preserved c = λ p.
    let const = c.args.is_const in
    let of = c.in-Array.of in
    let test : Bool → Bool → Bool = λ b k. if b then k else (const && not k) in
    let so : test (is_array (ctype_tree of.value.ty)) of.value.is_const ≡ false =
    sym (ap (λ b. test b c.deref-in-Array.result.now.is_const) (c.is_array.ensures ∙ ap (λ (v : Target). is_array (ctype_tree v.ty)) c.deref.ensures)
    ∙ ap (λ (v : Target). test (is_array (ctype_tree of.value.ty)) v.is_const) c.deref-in-Array.ensures)
    ∙ sym c.changes.ensures ∙ c.if-changes.false in
    let inner = subst (λ (v : Target). with_const_elements (ctype_tree v.ty) const ≡ ctype_tree v.ty) c.deref-in-Array-2.ensures p in
    c.inward.invariant
    (subst (λ ty. with_const_elements ty const ≡ ty) (sym (ap ctype_tree c.in-Array.is ∙ ctype_array of c.in-Array.field-1))
    (array_so (ctype_tree of.value.ty) of.value.is_const const c.in-Array.field-1 so inner))

pub returns : goal.returns
returns c = λ t. c.inward.invariant (no_array (ctype_tree c.inward.part.now) c.args.is_const (not_array_tree c.inward.part.now c.in_default.not-Array))
