use Rattle.std.proofs.Common.{ap, sym, map, None, Some}
use Rattle.std.specs.Option.{option_map}
use Rattle.c_syntax.specs.declared.op.Op.TheVariants as ops
use Rattle.c_syntax.specs.Types.{CTypeTree, ctype_tree}
use Rattle.c_typing.specs.Declarators.{unknown_function}
use Rattle.c_typing.specs.World.{no_rule}
use Rattle.c_check_jumps.specs.ContextViews.{context_tree}
use Rattle.c_check_declarators.specs.Views.{name_tree}
use Rattle.c_check_names.proofs.Steps.{refused, told_as}
use Rattle.c_check_names.specs.Worlds.{world_of}
use Rattle.c_check_functions.specs.Views.{by_list, list_tree}
use Rattle.c_check_functions.proofs.Forms.{comes}
use Rattle.c_check_functions.proofs.definitions.function_by.Goals as goal

pub returns-in-None : goal.returns-in-None
returns-in-None c =
    let w = world_of c.args.world.now in
    let around = context_tree c.args.around in
    let named = name_tree c.args.named.now in
    let types = map ctype_tree c.args.types.items in
    let target = ctype_tree c.args.target in
    refused c.no_init.result (no_rule w named.pos ops.Init (unknown_function w) None) (by_list w around named types target (option_map list_tree c.args.list))
    (told_as c.no_init.result (ap (λ (ty : CTypeTree). no_rule w named.pos ops.Init ty None) c.unknown_function.ensures) c.no_init.ensures)
    (ap (λ l. by_list w around named types target (option_map list_tree l)) (sym c.in-None.is))

pub returns-in-Some : goal.returns-in-Some
returns-in-Some c =
    let w = world_of c.args.world.now in
    let around = context_tree c.args.around in
    let named = name_tree c.args.named.now in
    let types = map ctype_tree c.args.types.items in
    let target = ctype_tree c.args.target in
    comes (by_list w around named types target (Some (list_tree c.in-Some.list))) (by_list w around named types target (option_map list_tree c.args.list))
    (world_of c.definition_begins.new.world) c.definition_begins.result
    (ap (λ l. by_list w around named types target (option_map list_tree l)) (sym c.in-Some.is)) c.definition_begins.ensures
