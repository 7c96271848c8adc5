use Rattle.std.proofs.Common.{ap, ◌∙◌}
use Rattle.std.specs.Prelude.{max}
use Rattle.csharp.specs.Trees.{csstmts_from}
use Rattle.lower_zeros.specs.Named.{joined}
use Rattle.lower_stmt.proofs.Items.{greatest_of_three, joined_push, same_items}
use Rattle.lower_stmt.proofs.listed.Listed.push.Goals as goal

pub returns : goal.returns
returns c = λ rest.
    same_items _ _ _ _
    (ap (λ xs. joined (csstmts_from xs) rest.items) c.in_ok-push.ensures.items ∙ joined_push c.args.self.now.items.items c.args.item.code rest.items)
    (ap (λ n. max n rest.top) c.max-self.ensures ∙ greatest_of_three c.args.self.now.top c.args.item.top rest.top)
