use Rattle.std.proofs.Common.{◌≡◌, ap, ◌∙◌, map, drop, length}
use Rattle.c_typing.specs.Declarators.{FunctionOf}
use Rattle.c_typing.specs.Names.{closed}
use Rattle.c_typing.specs.Typing.{with_step}
use Rattle.c_typing.specs.World.{Typed}
use Rattle.c_check_declarators.specs.Views.{parameter_tree, shape_tree}
use Rattle.c_check_names.proofs.Steps.{so}
use Rattle.c_check_names.specs.Trees.{binding_tree, tag_tree}
use Rattle.c_check_names.specs.Worlds.{world_of}
use Rattle.c_check_exprs.proofs.steps.with_function.Goals as goal

pub returns : goal.returns
returns c outer encloses =
    let w = world_of c.args.world.now in
    let after = world_of c.close_apart.new.self in
    let shape = shape_tree c.args.shape in
    let params = map parameter_tree c.args.params.items in
    let names = drop (length outer.names) w.names in
    let tags = drop (length outer.tags) w.tags in
    so shape_tree after c.longer.result
    (ap (λ n. Typed (with_step shape (FunctionOf params n (map tag_tree c.in_ok-names.tags.items))) after) (c.in_ok-names.ensures.names outer encloses)
    ∙ ap (λ t. Typed (with_step shape (FunctionOf params names t)) after) (c.in_ok-names.ensures.tags outer encloses)
    ∙ ap (Typed (with_step shape (FunctionOf params names tags))) (c.in_ok-names.ensures.closed outer encloses))
    (c.longer.ensures after)
