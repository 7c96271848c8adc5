use Rattle.std.proofs.Common.{ap, sym, map, Some}
use Rattle.std.specs.Option.{option_map}
use Rattle.c_typing.specs.File as files
use Rattle.c_check_jumps.specs.ContextViews.{context_tree}
use Rattle.c_check_declarators.specs.Views.{name_tree, shape_tree, step_tree}
use Rattle.c_check_names.specs.Trees.{form_tree}
use Rattle.c_check_names.specs.Worlds.{world_of}
use Rattle.c_check_functions.proofs.Forms.{comes}
use Rattle.c_check_functions.proofs.definitions.definition.Goals as goal

pub returns-in-None : goal.returns-in-None
returns-in-None c =
    ap (λ name. files.definition_named (world_of c.args.world.now) (context_tree c.args.around) c.args.first c.args.storage.now (map step_tree c.args.shape.steps.items)
    (form_tree c.args.base) (option_map name_tree name)) (sym c.in-None.is)

pub returns-in-Some : goal.returns-in-Some
returns-in-Some c =
    let w = world_of c.args.world.now in
    let around = context_tree c.args.around in
    let steps = map step_tree c.args.shape.steps.items in
    let base = form_tree c.args.base in
    comes (files.definition_named w around c.args.first c.args.storage.now steps base (option_map name_tree (Some c.in-Some.named)))
    (files.definition w around c.args.first c.args.storage.now base (shape_tree c.args.shape)) (world_of c.definition_named.new.world) c.definition_named.result
    (ap (λ name. files.definition_named w around c.args.first c.args.storage.now steps base (option_map name_tree name)) (sym c.in-Some.is))
    c.definition_named.ensures
