use Rattle.std.proofs.Common.{◌≡◌, ap, ◌∙◌, subst, rules}
use Rattle.std.proofs.lemmas.List.Elements.{same_from_all_zip}
use Rattle.std.proofs.lemmas.Option.{IfSome_then}
use Rattle.c_syntax_written.specs.Written.{declarator_tree, specs_tree}
use Rattle.c_syntax_written.specs.WrittenFile.{blockitems_tree}
use Rattle.c_typing.specs.Context as contexts
use Rattle.c_typing.specs.Decls.{nothing_made}
use Rattle.c_typing.specs.File.{definition}
use Rattle.c_typing.specs.Stmts.{TypesItems}
use Rattle.c_typing.specs.World.{Typed, Refused, goes_on, stops}
use Rattle.c_check_jumps.specs.ContextViews.{context_tree}
use Rattle.c_check_declarators.specs.Views.{shape_tree}
use Rattle.c_check_names.specs.Views.{refusal_of}
use Rattle.c_check_decls.specs.MadeViews.{made_tree}
use Rattle.c_check_names.specs.Trees.{form_tree}
use Rattle.c_check_names.specs.Worlds.{world_of}
use Rattle.c_check.proofs.Lines.{function_line}
use Rattle.c_check.proofs.outers.function.Goals as goal

pub returns-in-Err : goal.returns-in-Err
returns-in-Err c =
    IfSome_then (refusal_of c.in-Err.error) c.in-Err.ensures (λ r p.
    function_line (world_of c.args.world.now) (context_tree c.args.around) c.args.pos c.first_of-first.result (specs_tree c.args.words.now)
    (declarator_tree c.args.shape.now) c.args.brace (blockitems_tree c.args.body.now) (Refused r) c.first_of-first.ensures (stops p))

pub returns-in-Err-type_told : goal.returns-in-Err-type_told
returns-in-Err-type_told c =
    IfSome_then (refusal_of c.in-Err-type_told.error) (c.in-Err-type_told.ensures (world_of c.specs.new.world)) (λ r p.
    function_line (world_of c.args.world.now) (context_tree c.args.around) c.args.pos c.first_of-first.result (specs_tree c.args.words.now)
    (declarator_tree c.args.shape.now) c.args.brace (blockitems_tree c.args.body.now) (Refused r) c.first_of-first.ensures (goes_on c.in-Ok.ensures (stops p)))

pub returns-in-Err-declarator : goal.returns-in-Err-declarator
returns-in-Err-declarator c =
    IfSome_then (refusal_of c.in-Err-declarator.error) c.in-Err-declarator.ensures (λ r p.
    function_line (world_of c.args.world.now) (context_tree c.args.around) c.args.pos c.first_of-first.result (specs_tree c.args.words.now)
    (declarator_tree c.args.shape.now) c.args.brace (blockitems_tree c.args.body.now) (Refused r) c.first_of-first.ensures
    (goes_on c.in-Ok.ensures (goes_on (c.in-Ok-type_told.ensures (world_of c.specs.new.world)) (stops p))))

pub returns-in-Err-definition : goal.returns-in-Err-definition
returns-in-Err-definition c =
    let copied : c.in_ok-storage.storage.items ≡ c.in-Ok.got.storage.items = search (rules, same_from_all_zip) in
    let told : c.as_slice.result.now ≡ c.in-Ok.got.storage.items = c.as_slice.ensures.value ∙ copied in
    IfSome_then (refusal_of c.in-Err-definition.error) c.in-Err-definition.ensures (λ r p.
    function_line (world_of c.args.world.now) (context_tree c.args.around) c.args.pos c.first_of-first.result (specs_tree c.args.words.now)
    (declarator_tree c.args.shape.now) c.args.brace (blockitems_tree c.args.body.now) (Refused r) c.first_of-first.ensures
    (goes_on c.in-Ok.ensures (goes_on (c.in-Ok-type_told.ensures (world_of c.specs.new.world)) (goes_on c.in-Ok-declarator.ensures (stops
    (p ∙ ap (λ words. definition (world_of c.declarator.new.world) (context_tree c.args.around) c.first_of-first.result words (form_tree c.in-Ok-type_told.got)
    (shape_tree c.in-Ok-declarator.got)) told))))))

pub returns-in-Err-block_items : goal.returns-in-Err-block_items
returns-in-Err-block_items c =
    let copied : c.in_ok-storage.storage.items ≡ c.in-Ok.got.storage.items = search (rules, same_from_all_zip) in
    let told : c.as_slice.result.now ≡ c.in-Ok.got.storage.items = c.as_slice.ensures.value ∙ copied in
    let around = context_tree c.args.around in
    let body = blockitems_tree c.args.body.now in
    let v = world_of c.definition.new.world in
    let inside = c.in_function.ensures body c.in_ok-labels_of.ensures ∙ ap (λ ty. contexts.in_function ty body around) c.in_ok-copy.ensures in
    IfSome_then (refusal_of c.in-Err-block_items.error) c.in-Err-block_items.ensures (λ r p.
    function_line (world_of c.args.world.now) around c.args.pos c.first_of-first.result (specs_tree c.args.words.now)
    (declarator_tree c.args.shape.now) c.args.brace body (Refused r) c.first_of-first.ensures
    (goes_on c.in-Ok.ensures (goes_on (c.in-Ok-type_told.ensures (world_of c.specs.new.world)) (goes_on c.in-Ok-declarator.ensures (goes_on
    (c.in-Ok-definition.ensures.is ∙ ap (λ words. definition (world_of c.declarator.new.world) around c.first_of-first.result words (form_tree c.in-Ok-type_told.got)
    (shape_tree c.in-Ok-declarator.got)) told)
    (stops (subst (λ a. TypesItems v a nothing_made body (Refused r)) inside p)))))))

pub returns : goal.returns
returns c =
    let copied : c.in_ok-storage.storage.items ≡ c.in-Ok.got.storage.items = search (rules, same_from_all_zip) in
    let told : c.as_slice.result.now ≡ c.in-Ok.got.storage.items = c.as_slice.ensures.value ∙ copied in
    let around = context_tree c.args.around in
    let body = blockitems_tree c.args.body.now in
    let v = world_of c.definition.new.world in
    let u = world_of c.block_items.new.world in
    let made = made_tree c.in-Ok-block_items.got in
    let inside = c.in_function.ensures body c.in_ok-labels_of.ensures ∙ ap (λ ty. contexts.in_function ty body around) c.in_ok-copy.ensures in
    let ends = c.definition_ends.ensures c.in-Ok-definition.ensures.outside c.in-Ok-definition.ensures.encloses in
    function_line (world_of c.args.world.now) around c.args.pos c.first_of-first.result (specs_tree c.args.words.now)
    (declarator_tree c.args.shape.now) c.args.brace body (Typed tt (world_of c.definition_ends.new.world)) c.first_of-first.ensures
    (goes_on c.in-Ok.ensures (goes_on (c.in-Ok-type_told.ensures (world_of c.specs.new.world)) (goes_on c.in-Ok-declarator.ensures (goes_on
    (c.in-Ok-definition.ensures.is ∙ ap (λ words. definition (world_of c.declarator.new.world) around c.first_of-first.result words (form_tree c.in-Ok-type_told.got)
    (shape_tree c.in-Ok-declarator.got)) told)
    (goes_on (subst (λ a. TypesItems v a nothing_made body (Typed made u)) inside c.in-Ok-block_items.ensures) (ap (Typed tt) ends))))))
