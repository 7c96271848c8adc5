use Rattle.std.proofs.Common.{◌≡◌, ap, sym, ◌∙◌, refl, false, true, map, Some, None}
use Rattle.std.specs.Prelude.{not, ◌&&◌, option_map}
use Rattle.c_syntax.specs.Types.{ctype_tree}
use Rattle.c_typing.specs.Names.{is_reserved, linked_as}
use Rattle.c_typing.specs.Context.{has_name}
use Rattle.c_typing.specs.Decls.{binding_here, reserved_declared, is_function_so, is_main_shape, is_named_main}
use Rattle.c_check_jumps.specs.ContextViews.{context_tree}
use Rattle.c_check_declarators.specs.Views.{name_tree, parameter_tree}
use Rattle.c_check_names.proofs.Steps.{so}
use Rattle.c_check_decls.specs.Entities.{agreed, conflict_of}
use Rattle.c_check_names.specs.Trees.{linked_tree}
use Rattle.c_check_names.specs.Worlds.{world_of}
use Rattle.c_check_decls.proofs.FunctionForms.{function_on, reserved_on}
use Rattle.c_check_decls.proofs.functions.function_declared.Goals as goal

pub returns-then-is_reserved : goal.returns-then-is_reserved
returns-then-is_reserved c =
    let w = world_of c.args.world.now in
    let types = map ctype_tree c.args.types.items in
    let reserved = ap is_reserved (sym c.as_slice.ensures) ∙ sym c.is_reserved.ensures ∙ c.if-is_reserved.true in
    so (λ n. n) w c.reserved_declared.result
    (ap (λ ts. reserved_declared w (name_tree c.args.named.now) (map ctype_tree ts) (ctype_tree c.args.target) c.args.has_body) c.as_slice-then-is_reserved.ensures.value
    ∙ reserved_on w (context_tree c.args.around) (name_tree c.args.named.now) (map parameter_tree c.args.params.now) types (ctype_tree c.args.target) c.args.has_body reserved)
    (c.reserved_declared.ensures w)

pub returns-in-Some : goal.returns-in-Some
returns-in-Some c =
    let w = world_of c.args.world.now in
    let name = c.args.named.now.name in
    let types = map ctype_tree c.args.types.items in
    let target = ctype_tree c.args.target in
    let l = option_map linked_tree c.in_ok-before.before in
    let wrong = is_named_main name && not (is_main_shape types target) in
    let reserved = ap is_reserved (sym c.as_slice.ensures) ∙ sym c.is_reserved.ensures ∙ c.if-is_reserved.false in
    let told : c.conflict.result ≡ conflict_of (binding_here w name) (linked_as w name) (agreed (is_function_so w types target c.args.has_body) l) =
    c.conflict.ensures ∙ ap (λ n. conflict_of (binding_here w n) (linked_as w n) c.agrees-agrees.result) c.as_slice-4.ensures
    ∙ ap (conflict_of (binding_here w name) (linked_as w name))
    (c.agrees-agrees.ensures ∙ ap (λ ts. agreed (is_function_so w (map ctype_tree ts) target c.args.has_body) l) c.as_slice-3.ensures.value) in
    function_on w (context_tree c.args.around) (name_tree c.args.named.now) (map parameter_tree c.args.params.now) types target c.args.has_body wrong l
    (Some c.in-Some.first) reserved refl (c.in_ok-before.ensures ∙ ap (linked_as w) c.as_slice-2.ensures) (sym c.in-Some.is ∙ told)

pub returns-then-is_wrong_main : goal.returns-then-is_wrong_main
returns-then-is_wrong_main c =
    let w = world_of c.args.world.now in
    let name = c.args.named.now.name in
    let types = map ctype_tree c.args.types.items in
    let target = ctype_tree c.args.target in
    let l = option_map linked_tree c.in_ok-before.before in
    let reserved = ap is_reserved (sym c.as_slice.ensures) ∙ sym c.is_reserved.ensures ∙ c.if-is_reserved.false in
    let told : c.conflict.result ≡ conflict_of (binding_here w name) (linked_as w name) (agreed (is_function_so w types target c.args.has_body) l) =
    c.conflict.ensures ∙ ap (λ n. conflict_of (binding_here w n) (linked_as w n) c.agrees-agrees.result) c.as_slice-4.ensures
    ∙ ap (conflict_of (binding_here w name) (linked_as w name))
    (c.agrees-agrees.ensures ∙ ap (λ ts. agreed (is_function_so w (map ctype_tree ts) target c.args.has_body) l) c.as_slice-3.ensures.value) in
    let wrong : c.is_wrong_main.result ≡ (is_named_main name && not (is_main_shape types target)) =
    c.is_wrong_main.ensures ∙ ap (λ n. is_named_main n && not (is_main_shape (map ctype_tree c.as_slice-6.result.now) target)) c.as_slice-5.ensures
    ∙ ap (λ ts. is_named_main name && not (is_main_shape (map ctype_tree ts) target)) c.as_slice-6.ensures.value in
    function_on w (context_tree c.args.around) (name_tree c.args.named.now) (map parameter_tree c.args.params.now) types target c.args.has_body true l
    None reserved (sym c.if-is_wrong_main.true ∙ wrong) (c.in_ok-before.ensures ∙ ap (linked_as w) c.as_slice-2.ensures) (sym c.in_default.is ∙ told)

pub returns : goal.returns
returns c =
    let w = world_of c.args.world.now in
    let around = context_tree c.args.around in
    let name = c.args.named.now.name in
    let types = map ctype_tree c.args.types.items in
    let target = ctype_tree c.args.target in
    let l = option_map linked_tree c.in_ok-before.before in
    let reserved = ap is_reserved (sym c.as_slice.ensures) ∙ sym c.is_reserved.ensures ∙ c.if-is_reserved.false in
    let told : c.conflict.result ≡ conflict_of (binding_here w name) (linked_as w name) (agreed (is_function_so w types target c.args.has_body) l) =
    c.conflict.ensures ∙ ap (λ n. conflict_of (binding_here w n) (linked_as w n) c.agrees-agrees.result) c.as_slice-4.ensures
    ∙ ap (conflict_of (binding_here w name) (linked_as w name))
    (c.agrees-agrees.ensures ∙ ap (λ ts. agreed (is_function_so w (map ctype_tree ts) target c.args.has_body) l) c.as_slice-3.ensures.value) in
    let wrong : c.is_wrong_main.result ≡ (is_named_main name && not (is_main_shape types target)) =
    c.is_wrong_main.ensures ∙ ap (λ n. is_named_main n && not (is_main_shape (map ctype_tree c.as_slice-6.result.now) target)) c.as_slice-5.ensures
    ∙ ap (λ ts. is_named_main name && not (is_main_shape (map ctype_tree ts) target)) c.as_slice-6.ensures.value in
    let later = c.has-has_body_later.ensures ∙ ap (has_name around.functions) c.as_slice-7.ensures in
    sym (c.in_ok-number.ensures around later)
    ∙ function_on w around (name_tree c.args.named.now) (map parameter_tree c.args.params.now) types target c.args.has_body false l
    None reserved (sym c.if-is_wrong_main.false ∙ wrong) (c.in_ok-before.ensures ∙ ap (linked_as w) c.as_slice-2.ensures) (sym c.in_default.is ∙ told)
