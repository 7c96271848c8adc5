use Rattle.std.proofs.Common.{◌-◌, map, sym, ap, ◌∙◌}
use Rattle.std.specs.Prelude.{option_and_then}
use Rattle.c_syntax.specs.Program.{structdef_tree}
use Rattle.c_syntax.specs.Types.{ctype_tree}
use Rattle.c_syntax.proofs.TypeTrees.{ctype_array, ctype_function, ctype_int, ctype_pointer, ctype_struct, ctype_void}
use Rattle.lower_trees.specs.Zeros.{scalar_by, scalar_within}
use Rattle.lower_zeros.specs.Levels.{scalar_left}
use Rattle.lower_zeros.proofs.Descent.{down, element_plain, in_member}
use Rattle.lower_zeros.proofs.scalars.found_at.Goals as goal

pub returns-in-Int-clause-same : goal.returns-in-Int-clause-same
returns-in-Int-clause-same c = λ levels.
    let structs = map structdef_tree c.args.structs.now in
    down structs (ctype_tree c.args.ty.now) _ c.args.byte c.byte_of_element-within.result levels c.element_of-element.ensures c.byte_of_element-within.ensures.value
    ∙ ap (λ t. scalar_by (scalar_within levels structs) structs t c.byte_of_element-within.result) (ap ctype_tree c.in-Int.is ∙ ctype_int c.in-Int.t)
    ∙ sym c.at_first.ensures

pub returns-in-Pointer-clause-same : goal.returns-in-Pointer-clause-same
returns-in-Pointer-clause-same c = λ levels.
    let structs = map structdef_tree c.args.structs.now in
    down structs (ctype_tree c.args.ty.now) _ c.args.byte c.byte_of_element-within.result levels c.element_of-element.ensures c.byte_of_element-within.ensures.value
    ∙ ap (λ t. scalar_by (scalar_within levels structs) structs t c.byte_of_element-within.result) (ap ctype_tree c.in-Pointer.is ∙ ctype_pointer c.in-Pointer.field-0)
    ∙ sym c.at_first-in-Pointer.ensures

pub returns-in-Void-clause-same : goal.returns-in-Void-clause-same
returns-in-Void-clause-same c = λ levels.
    let structs = map structdef_tree c.args.structs.now in
    down structs (ctype_tree c.args.ty.now) _ c.args.byte c.byte_of_element-within.result levels c.element_of-element.ensures c.byte_of_element-within.ensures.value
    ∙ ap (λ t. scalar_by (scalar_within levels structs) structs t c.byte_of_element-within.result) (ap ctype_tree c.in-Void.is ∙ ctype_void)

pub returns-in-Function-clause-same : goal.returns-in-Function-clause-same
returns-in-Function-clause-same c = λ levels.
    let structs = map structdef_tree c.args.structs.now in
    down structs (ctype_tree c.args.ty.now) _ c.args.byte c.byte_of_element-within.result levels c.element_of-element.ensures c.byte_of_element-within.ensures.value
    ∙ ap (λ t. scalar_by (scalar_within levels structs) structs t c.byte_of_element-within.result)
    (ap ctype_tree c.in-Function.is ∙ ctype_function c.in-Function.field-0)

pub returns-in-Array-clause-same : goal.returns-in-Array-clause-same
returns-in-Array-clause-same c = λ levels.
    absurd (element_plain (ctype_tree c.args.ty.now) _ _ _
    (sym c.element_of-element.ensures ∙ ap ctype_tree c.in-Array.is ∙ ctype_array c.in-Array.field-0 c.in-Array.field-1))

pub returns-in-None-clause-same : goal.returns-in-None-clause-same
returns-in-None-clause-same c = λ levels.
    let structs = map structdef_tree c.args.structs.now in
    let within = c.byte_of_element-within.result in
    down structs (ctype_tree c.args.ty.now) _ c.args.byte within levels c.element_of-element.ensures c.byte_of_element-within.ensures.value
    ∙ ap (λ t. scalar_by (scalar_within levels structs) structs t within) (ap ctype_tree c.in-Struct.is ∙ ctype_struct c.in-Struct.n)
    ∙ in_member levels structs c.in-Struct.n within
    ∙ ap (option_and_then (λ m. scalar_left levels structs m.ty (within - m.offset))) (sym c.in-None.ensures)

pub returns-in-Some-clause-same : goal.returns-in-Some-clause-same
returns-in-Some-clause-same c = λ levels.
    let structs = map structdef_tree c.args.structs.now in
    let within = c.byte_of_element-within.result in
    down structs (ctype_tree c.args.ty.now) _ c.args.byte within levels c.element_of-element.ensures c.byte_of_element-within.ensures.value
    ∙ ap (λ t. scalar_by (scalar_within levels structs) structs t within) (ap ctype_tree c.in-Struct.is ∙ ctype_struct c.in-Struct.n)
    ∙ in_member levels structs c.in-Struct.n within
    ∙ ap (option_and_then (λ m. scalar_left levels structs m.ty (within - m.offset))) (sym c.in-Some.ensures)
    ∙ ap (scalar_left levels structs (ctype_tree c.in-Some.member.now.ty)) (sym c.saturating_sub.ensures)
