use Rattle.std.proofs.Common.{ap, sym, ◌∙◌, map, None}
use Rattle.c_syntax.specs.declared.op.Op.TheVariants as ops
use Rattle.c_syntax.specs.Types.{ctype_tree}
use Rattle.c_typing.specs.Declarators.{shown}
use Rattle.c_typing.specs.File.{definition_of}
use Rattle.c_typing.specs.World.{Plain, Unsized, no_rule}
use Rattle.c_check_jumps.specs.ContextViews.{context_tree}
use Rattle.c_check_declarators.specs.Views.{name_tree, step_tree}
use Rattle.c_check_names.proofs.Steps.{refused}
use Rattle.c_check_names.specs.Trees.{form_tree}
use Rattle.c_check_names.specs.Worlds.{world_of}
use Rattle.c_check_functions.specs.Views.{by_list, list_tree}
use Rattle.std.specs.Option.{option_map}
use Rattle.c_check_functions.proofs.Forms.{comes, by_own_list, no_function_plain, no_function_unsized}
use Rattle.c_check_functions.proofs.definitions.definition_of.Goals as goal

pub returns-in-Callable : goal.returns-in-Callable
returns-in-Callable c =
    let w = world_of c.args.world.now in
    let around = context_tree c.args.around in
    let named = name_tree c.args.named.now in
    let steps = map step_tree c.args.steps.items in
    let types = map ctype_tree c.in-Callable.types.items in
    let target = ctype_tree c.in-Callable.target in
    comes (by_list w around named types target (option_map list_tree c.own_list-list.result)) (definition_of w around named steps (form_tree c.args.form))
    (world_of c.function_by.new.world) c.function_by.result
    (ap (by_list w around named types target) c.own_list-list.ensures ∙ by_own_list w around named steps types target
    ∙ ap (λ f. definition_of w around named steps (form_tree f)) (sym c.in-Callable.is))
    c.function_by.ensures

pub returns-in-Plain : goal.returns-in-Plain
returns-in-Plain c =
    let w = world_of c.args.world.now in
    let around = context_tree c.args.around in
    let named = name_tree c.args.named.now in
    let steps = map step_tree c.args.steps.items in
    let ty = ctype_tree c.in-Plain.ty in
    refused c.no_body.result (no_rule w named.pos ops.Init (shown w (Plain ty c.in-Plain.is_const)) None) (definition_of w around named steps (form_tree c.args.form))
    c.no_body.ensures
    (no_function_plain w around named steps ty c.in-Plain.is_const ∙ ap (λ f. definition_of w around named steps (form_tree f)) (sym c.in-Plain.is))

pub returns-in-Unsized : goal.returns-in-Unsized
returns-in-Unsized c =
    let w = world_of c.args.world.now in
    let around = context_tree c.args.around in
    let named = name_tree c.args.named.now in
    let steps = map step_tree c.args.steps.items in
    let of = ctype_tree c.in-Unsized.of in
    refused c.no_body-in-Unsized.result (no_rule w named.pos ops.Init (shown w (Unsized of c.in-Unsized.is_const)) None)
    (definition_of w around named steps (form_tree c.args.form)) c.no_body-in-Unsized.ensures
    (no_function_unsized w around named steps of c.in-Unsized.is_const ∙ ap (λ f. definition_of w around named steps (form_tree f)) (sym c.in-Unsized.is))
