use Rattle.std.proofs.Common.{◌≡◌, sym, ap, ◌∙◌, map, take, drop, length}
use Rattle.std.proofs.lemmas.List.{take-map}
use Rattle.c_check_names.specs.Trees.{binding_tree, tag_tree}
use Rattle.c_check_names.proofs.Cuts.{drop_map}
use Rattle.c_check_names.proofs.world.World.close_apart.Goals as goal

pub returns-clause-closed : goal.returns-clause-closed
returns-clause-closed c = λ outer e.
    let names : map binding_tree c.split_off.new.self ≡ take (length outer.names) (map binding_tree c.args.self.now.names) =
    ap (map binding_tree) c.in_ok-names.ensures.rest ∙ ap (λ n. map binding_tree (take n c.args.self.now.names)) e.names ∙ sym (take-map binding_tree (length outer.names) c.args.self.now.names) in
    let tags : map tag_tree c.split_off-2.new.self ≡ take (length outer.tags) (map tag_tree c.args.self.now.tags) =
    ap (map tag_tree) c.in_ok-tags.ensures.rest ∙ ap (λ n. map tag_tree (take n c.args.self.now.tags)) e.tags ∙ sym (take-map tag_tree (length outer.tags) c.args.self.now.tags) in
    let first_name = e.first_name in
    let first_tag = e.first_tag in
    cc

pub returns-clause-names : goal.returns-clause-names
returns-clause-names c = λ outer e.
    ap (map binding_tree) c.in_ok-names.ensures.taken ∙ ap (λ n. map binding_tree (drop n c.args.self.now.names)) e.names ∙ sym (drop_map binding_tree (length outer.names) c.args.self.now.names)

pub returns-clause-tags : goal.returns-clause-tags
returns-clause-tags c = λ outer e.
    ap (map tag_tree) c.in_ok-tags.ensures.taken ∙ ap (λ n. map tag_tree (drop n c.args.self.now.tags)) e.tags ∙ sym (drop_map tag_tree (length outer.tags) c.args.self.now.tags)
