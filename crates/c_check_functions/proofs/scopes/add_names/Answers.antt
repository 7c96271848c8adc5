use Rattle.std.proofs.Common.{◌≡◌, [], ◌++◌, sym, ap, ◌∙◌, arith}
use Rattle.std.specs.Option.{option_to_list}
use Rattle.std.proofs.lemmas.Grind.{common_steps}
use Rattle.c_check_names.specs.Trees.{meaning_tree}
use Rattle.c_check_names.specs.Worlds.{world_of}
use Rattle.c_check_functions.proofs.Left.{names_begin, next_name, no_name_left}
use Rattle.c_check_functions.proofs.scopes.add_names.Goals as goal

pub each-init : goal.each-init
each-init c = names_begin (world_of c.args.world.now) c.args.first c.args.names.items c.reverse.new.self.items c.reverse.ensures.items

pub each-preserved : goal.each-preserved
each-preserved c =
    let popped = c.pop.ensures.items ∙ ap (λ b. c.pop.new.self.items ++ option_to_list b) c.in-Some.is in
    next_name (world_of c.each.world) c.args.first c.each.left.items c.pop.new.self.items c.in-Some.binding (meaning_tree c.in_ok-meaning.meaning)
    (world_of c.declare.new.self) popped c.in_ok-meaning.ensures c.in_ok-declare.ensures ∙ c.each.invariant

pub returns : goal.returns
returns c =
    let none : c.each.left.items ≡ [] = grind (arith, common_steps, c.in_default.ensures.cases) in
    sym (no_name_left (world_of c.each.world) c.args.first c.each.left.items none) ∙ c.each.invariant
