use Rattle.std.proofs.Common.{ap, ◌∙◌, map}
use Rattle.c_check_names.specs.Trees.{linked_tree}
use Rattle.c_check_names.specs.Worlds.{world_of}
use Rattle.c_check_decls.specs.Entities.{changed}
use Rattle.c_check_decls.proofs.Changing.{set_changed}
use Rattle.c_check_decls.proofs.changes.change_at.Goals as goal

pub returns : goal.returns
returns c =
    let told = set_changed linked_tree (changed c.args.change.now) c.args.world.now.linked c.args.place
    c.get.result.now c.in_ok-after.after c.get.ensures c.in_ok-after.ensures.tree in
    ap (λ es. record (world_of c.args.world.now) { linked = es }) (ap (map linked_tree) c.replace.ensures ∙ told)
