use Rattle.std.proofs.Common.{sym, ap, ◌∙◌}
use Rattle.std.specs.Option.{option_map}
use Rattle.std.specs.Str.{bytes_eq}
use Rattle.c_check_names.specs.Trees.{tag_tree}
use Rattle.c_check_names.proofs.Found.{lent_tree, first_itself}
use Rattle.c_check_names.proofs.world.World.tag_here.Goals as goal

pub returns : goal.returns
returns c =
    lent_tree tag_tree c.first_from.result ∙ ap (option_map tag_tree) c.first_from.ensures
    ∙ sym (first_itself tag_tree (λ b. bytes_eq b.tag c.args.tag.now) c.args.self.now.first_tag c.args.self.now.tags)
