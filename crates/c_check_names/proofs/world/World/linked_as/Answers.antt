use Rattle.std.proofs.Common.{sym, ap, ◌∙◌}
use Rattle.std.specs.Option.{option_map}
use Rattle.std.specs.Str.{bytes_eq}
use Rattle.c_check_names.specs.Trees.{linked_tree}
use Rattle.c_check_names.proofs.Found.{lent_tree, first_itself}
use Rattle.c_check_names.proofs.world.World.linked_as.Goals as goal

pub returns : goal.returns
returns c =
    lent_tree linked_tree c.first_from.result ∙ ap (option_map linked_tree) c.first_from.ensures
    ∙ sym (first_itself linked_tree (λ l. bytes_eq l.name c.args.name.now) 0 c.args.self.now.linked)
