use Rattle.std.proofs.Common.{◌≡◌, [], ◌++◌, ap, ◌∙◌, arith}
use Rattle.std.specs.Option.{option_to_list}
use Rattle.std.proofs.lemmas.Grind.{common_steps}
use Rattle.c_check_functions.proofs.Forms.{own_none, own_first}
use Rattle.c_check_functions.proofs.lists.own_list.Goals as goal

pub returns-in-None : goal.returns-in-None
returns-in-None c =
    let none : c.reverse.new.self.items ≡ [] = grind (arith, common_steps, c.in-None.ensures.cases) in
    own_none c.args.steps.items c.reverse.new.self.items c.reverse.ensures.items none

pub returns : goal.returns
returns c =
    let popped = c.pop.ensures.items ∙ ap (λ b. c.pop.new.self.items ++ option_to_list b) c.in-Some.is in
    c.list_in.ensures ∙ own_first c.args.steps.items c.reverse.new.self.items c.pop.new.self.items c.in-Some.first c.reverse.ensures.items popped
