use Rattle.std.proofs.Common.{ap, ◌∙◌, map, None}
use Rattle.std.proofs.lemmas.Option.{IfSome_then}
use Rattle.c_syntax.specs.declared.op.Op.TheVariants as ops
use Rattle.c_typing.specs.Declarators.{laid, shown}
use Rattle.c_typing.specs.File as files
use Rattle.c_typing.specs.World.{no_rule}
use Rattle.c_check_jumps.specs.ContextViews.{context_tree}
use Rattle.c_check_declarators.specs.Views.{name_tree, step_tree}
use Rattle.c_check_names.proofs.Steps.{refused}
use Rattle.c_check_names.specs.Views.{refusal_of}
use Rattle.c_check_names.specs.Trees.{form_tree}
use Rattle.c_check_names.specs.Worlds.{world_of}
use Rattle.c_check_functions.proofs.Forms.{comes, goes_to, typedef_refused}
use Rattle.c_check_functions.proofs.definitions.definition_named.Goals as goal

pub returns-in-Err : goal.returns-in-Err
returns-in-Err c =
    let w = world_of c.args.world.now in
    let base = form_tree c.args.base in
    let steps = map step_tree c.args.steps.items in
    IfSome_then (refusal_of c.in-Err.error) c.in-Err.ensures (λ r p.
    ap (files.definition_laid (context_tree c.args.around) (name_tree c.args.named.now) c.args.storage.now steps)
    (p ∙ ap (λ ss. laid w c.args.named.now.pos (map step_tree ss) base) c.as_slice.ensures.value))

pub returns-then-is_word : goal.returns-then-is_word
returns-then-is_word c =
    let w = world_of c.args.world.now in
    let named = name_tree c.args.named.now in
    let steps = map step_tree c.args.steps.items in
    let told = laid w named.pos steps (form_tree c.args.base) in
    let e = c.in-Ok.ensures ∙ ap (λ ss. laid w named.pos (map step_tree ss) (form_tree c.args.base)) c.as_slice.ensures.value in
    refused c.no_body.result (no_rule w named.pos ops.Init (shown w (form_tree c.in-Ok.form)) None)
    (files.definition_laid (context_tree c.args.around) named c.args.storage.now steps told) c.no_body.ensures
    (typedef_refused w (context_tree c.args.around) named c.args.storage.now steps (form_tree c.in-Ok.form) told e c.is_word.result c.is_word.ensures c.if-is_word.true)

pub returns-else-is_word : goal.returns-else-is_word
returns-else-is_word c =
    let w = world_of c.args.world.now in
    let around = context_tree c.args.around in
    let named = name_tree c.args.named.now in
    let steps = map step_tree c.args.steps.items in
    let told = laid w named.pos steps (form_tree c.args.base) in
    let e = c.in-Ok.ensures ∙ ap (λ ss. laid w named.pos (map step_tree ss) (form_tree c.args.base)) c.as_slice.ensures.value in
    comes (files.definition_of w around named steps (form_tree c.in-Ok.form)) (files.definition_laid around named c.args.storage.now steps told)
    (world_of c.definition_of.new.world) c.definition_of.result
    (goes_to w around named c.args.storage.now steps (form_tree c.in-Ok.form) told e c.is_word.result c.is_word.ensures c.if-is_word.false)
    c.definition_of.ensures
