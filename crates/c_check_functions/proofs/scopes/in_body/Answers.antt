use Rattle.std.proofs.Common.{ap, ◌∙◌, map}
use Rattle.c_typing.specs.File.{with_object_meaning}
use Rattle.c_typing.specs.World.{World}
use Rattle.c_check_names.specs.Trees.{binding_tree, tag_tree}
use Rattle.c_check_functions.specs.Views.{with_names, with_tags, without_jumps}
use Rattle.c_check_functions.proofs.scopes.in_body.Goals as goal

pub returns-clause-begun : goal.returns-clause-begun
returns-clause-begun c =
    let names = map (with_object_meaning c.args.first) (map binding_tree c.args.names.items) in
    let tags = map tag_tree c.args.tags.items in
    c.forget_jumps.ensures
    ∙ ap without_jumps (c.in_ok-add_tags.ensures ∙ ap (λ (w : World). with_tags w tags) (c.in_ok-add_names.ensures ∙ ap (λ (w : World). with_names w names) c.open-scope.ensures.opened))
