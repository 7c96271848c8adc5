use Rattle.std.proofs.Common.{sym, ap, ◌∙◌}
use Rattle.std.specs.Option.{option_map}
use Rattle.std.specs.Str.{bytes_eq}
use Rattle.c_check_names.specs.Trees.{binding_tree}
use Rattle.c_check_names.proofs.Found.{lent_tree, first_itself}
use Rattle.c_check_decls.proofs.conflicts.binding_here.Goals as goal

pub returns : goal.returns
returns c =
    lent_tree binding_tree c.first_from.result ∙ ap (option_map binding_tree) c.first_from.ensures
    ∙ sym (first_itself binding_tree (λ b. bytes_eq b.name c.args.name.now) c.args.world.now.first_name c.args.world.now.names)
