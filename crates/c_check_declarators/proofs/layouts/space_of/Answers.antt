use Rattle.std.proofs.Common.{sym, ap, ◌∙◌, map}
use Rattle.c_syntax.specs.declared.types.Target.{Target}
use Rattle.c_syntax.specs.Types.{ctype_tree}
use Rattle.c_syntax.specs.Program.{structdef_tree}
use Rattle.c_syntax.proofs.TypeTrees.{ctype_array}
use Rattle.c_layout.specs.Layout.{space_by, in_table, array_space}
use Rattle.c_check_declarators.proofs.Arrays.{not_array_tree}
use Rattle.c_check_declarators.proofs.Sizes.{array_one, array_twice}
use Rattle.c_check_declarators.proofs.layouts.space_of.Goals as goal

pub inward-init : goal.inward-init
inward-init c = sym (array_one (space_by (in_table (map structdef_tree c.args.structs.now)) (ctype_tree c.args.ty.now)))

pub inward-preserved : goal.inward-preserved
inward-preserved c =
    let struct = in_table (map structdef_tree c.args.structs.now) in
    let of = c.in-Array.of in
    c.inward.invariant ∙ ap (λ ty. array_space c.inward.count (space_by struct ty)) (ap ctype_tree c.in-Array.is ∙ ctype_array of c.in-Array.n)
    ∙ sym (array_twice c.inward.count c.in-Array.n (space_by struct (ctype_tree of.value.ty)))
    ∙ ap (λ n. array_space n (space_by struct (ctype_tree of.value.ty))) (sym c.in-Some.ensures.1)
    ∙ ap (λ (v : Target). array_space c.in-Some.count (space_by struct (ctype_tree v.ty))) (sym c.deref.ensures)

pub element_space-requires : goal.element_space-requires
element_space-requires c = not_array_tree c.inward.part.now c.in_default.not-Array
