use Rattle.std.proofs.Common.{◌≡◌, sym, ap, ◌∙◌, map, take, length}
use Rattle.std.proofs.lemmas.List.{take-map}
use Rattle.c_check_names.specs.Trees.{binding_tree, tag_tree}
use Rattle.c_check_names.proofs.world.World.close.Goals as goal

pub returns : goal.returns
returns c = λ outer e.
    let names : map binding_tree c.truncate.new.self ≡ take (length outer.names) (map binding_tree c.args.self.now.names) =
    ap (map binding_tree) c.truncate.ensures ∙ ap (λ n. map binding_tree (take n c.args.self.now.names)) e.names ∙ sym (take-map binding_tree (length outer.names) c.args.self.now.names) in
    let tags : map tag_tree c.truncate-2.new.self ≡ take (length outer.tags) (map tag_tree c.args.self.now.tags) =
    ap (map tag_tree) c.truncate-2.ensures ∙ ap (λ n. map tag_tree (take n c.args.self.now.tags)) e.tags ∙ sym (take-map tag_tree (length outer.tags) c.args.self.now.tags) in
    let first_name = e.first_name in
    let first_tag = e.first_tag in
    cc
