use Rattle.std.proofs.Common.{sym, ap, ◌∙◌}
use Rattle.std.specs.Prelude.{map}
use Rattle.csharp.specs.Trees.{csstmt_tree}
use Rattle.lower_nodes.specs.Parts.{in_sequence}
use Rattle.lower_nodes.proofs.Gathering.{in_sequence_push}
use Rattle.lower_nodes.proofs.gathered.in_sequence.Goals as goal

pub loop-before-preserved : goal.loop-before-preserved
loop-before-preserved c =
    ap (in_sequence (map csstmt_tree c.pop.new.self.items)) c.in_ok-behind.ensures
    ∙ sym (in_sequence_push c.pop.new.self.items c.in-Some.before (csstmt_tree c.loop-before.behind))
    ∙ ap (λ xs. in_sequence (map csstmt_tree xs) (csstmt_tree c.loop-before.behind)) (sym c.in-Some.ensures.items)
    ∙ c.loop-before.invariant
