use Rattle.std.proofs.Common.{◌≡◌, [], ◌++◌, sym, ap, ◌∙◌, arith}
use Rattle.std.specs.Option.{option_to_list}
use Rattle.std.proofs.lemmas.Grind.{common_steps}
use Rattle.c_check_names.specs.Worlds.{world_of}
use Rattle.c_check_functions.proofs.Left.{tags_begin, next_tag, no_tag_left}
use Rattle.c_check_functions.proofs.scopes.add_tags.Goals as goal

pub each-init : goal.each-init
each-init c = tags_begin (world_of c.args.world.now) c.args.tags.items c.reverse.new.self.items c.reverse.ensures.items

pub each-preserved : goal.each-preserved
each-preserved c =
    let popped = c.pop.ensures.items ∙ ap (λ b. c.pop.new.self.items ++ option_to_list b) c.in-Some.is in
    next_tag (world_of c.each.world) c.each.left.items c.pop.new.self.items c.in-Some.tag (world_of c.add_tag.new.world) popped c.in_ok-add_tag.ensures ∙ c.each.invariant

pub returns : goal.returns
returns c =
    let none : c.each.left.items ≡ [] = grind (arith, common_steps, c.in_default.ensures.cases) in
    sym (no_tag_left (world_of c.each.world) c.each.left.items none) ∙ c.each.invariant
