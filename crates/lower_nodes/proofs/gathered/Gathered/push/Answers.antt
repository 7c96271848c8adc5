use Rattle.std.proofs.Common.{◌++◌, ap, ◌∙◌}
use Rattle.std.specs.Prelude.{map, max}
use Rattle.csharp.specs.Trees.{csexpr_tree, csstmt_tree}
use Rattle.lower_nodes.specs.Parts.{in_sequence}
use Rattle.lower_nodes.proofs.Gathering.{in_sequence_push, values_push, greatest_of_three, same_args}
use Rattle.lower_nodes.proofs.gathered.Gathered.push.Goals as goal

pub returns-clause-rest : goal.returns-clause-rest
returns-clause-rest c = λ rest.
    same_args _ _ _ _ _ _ _
    (ap (λ xs. in_sequence (map csstmt_tree xs) rest.before) c.in_ok-push.ensures.items ∙ in_sequence_push c.args.self.now.befores.items c.args.part.before rest.before)
    (ap (λ xs. map csexpr_tree xs ++ rest.values) c.in_ok-push-2.ensures.items ∙ values_push c.args.self.now.values.items c.args.part.value rest.values)
    (ap (λ n. max n rest.top) c.max-self.ensures ∙ greatest_of_three c.args.self.now.top c.args.part.top rest.top)
