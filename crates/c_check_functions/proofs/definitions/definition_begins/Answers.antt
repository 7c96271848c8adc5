use Rattle.std.proofs.Common.{ℕ, ap, sym, ◌∙◌, map, true, Some, length}
use Rattle.std.specs.Prelude.{Option}
use Rattle.std.proofs.lemmas.Option.{IfSome_then}
use Rattle.c_syntax.specs.Types.{CTypeTree, ctype_tree}
use Rattle.c_typing.specs.Decls.{function_declared}
use Rattle.c_typing.specs.File.{definition_begins, body_begins, with_counted}
use Rattle.c_typing.specs.World.{Typed}
use Rattle.c_check_jumps.specs.ContextViews.{context_tree}
use Rattle.c_check_declarators.specs.Views.{name_tree, parameter_tree}
use Rattle.c_check_names.specs.Views.{refusal_of}
use Rattle.c_check_names.specs.Worlds.{world_of}
use Rattle.c_check_functions.specs.Views.{by_list, list_tree}
use Rattle.c_check_functions.proofs.Forms.{comes}
use Rattle.c_check_functions.proofs.definitions.definition_begins.Goals as goal

pub returns-in-Err : goal.returns-in-Err
returns-in-Err c =
    let w = world_of c.args.world.now in
    let around = context_tree c.args.around in
    let named = name_tree c.args.named.now in
    let types = map ctype_tree c.args.types.items in
    let target = ctype_tree c.args.target in
    let list = list_tree c.args.list in
    IfSome_then (refusal_of c.in-Err.error) c.in-Err.ensures (λ r p.
    ap (definition_begins w named target list.params list.names list.tags)
    (p ∙ ap (λ ps. function_declared w around named (map parameter_tree ps) types target true) c.as_slice-params.ensures.value))

pub returns-in-None : goal.returns-in-None
returns-in-None c =
    let w = world_of c.args.world.now in
    let around = context_tree c.args.around in
    let named = name_tree c.args.named.now in
    let types = map ctype_tree c.args.types.items in
    let target = ctype_tree c.args.target in
    let list = list_tree c.args.list in
    let v = world_of c.function_declared.new.world in
    ap (λ (n : Option ℕ). definition_begins w named target list.params list.names list.tags (Typed n v)) (sym c.in-None.is)
    ∙ ap (definition_begins w named target list.params list.names list.tags)
    (c.in-Ok.ensures ∙ ap (λ ps. function_declared w around named (map parameter_tree ps) types target true) c.as_slice-params.ensures.value)

pub returns-in-Some : goal.returns-in-Some
returns-in-Some c =
    let w = world_of c.args.world.now in
    let around = context_tree c.args.around in
    let named = name_tree c.args.named.now in
    let types = map ctype_tree c.args.types.items in
    let target = ctype_tree c.args.target in
    let list = list_tree c.args.list in
    let v = world_of c.function_declared.new.world in
    let n = c.in-Some.number in
    comes (body_begins n (length v.objects) named (ctype_tree c.in_ok-kept.kept) list.params list.names list.tags (with_counted v list.params))
    (by_list w around named types target (Some list)) (world_of c.body_begins.new.world) c.body_begins.result
    (ap (λ (ty : CTypeTree). body_begins n (length v.objects) named ty list.params list.names list.tags (with_counted v list.params)) c.in_ok-kept.ensures
    ∙ ap (λ (m : Option ℕ). definition_begins w named target list.params list.names list.tags (Typed m v)) (sym c.in-Some.is)
    ∙ ap (definition_begins w named target list.params list.names list.tags)
    (c.in-Ok.ensures ∙ ap (λ ps. function_declared w around named (map parameter_tree ps) types target true) c.as_slice-params.ensures.value))
    c.body_begins.ensures
