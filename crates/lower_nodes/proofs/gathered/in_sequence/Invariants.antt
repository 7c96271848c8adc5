use Rattle.std.proofs.Common.{◌≡◌}
use Rattle.std.specs.Prelude.{map, vec_len}
use Rattle.csharp.specs.Trees.{Nothing, csstmt_tree}
use Rattle.lower_nodes.specs.Parts.{in_sequence}
use Rattle.lower_nodes.proofs.gathered.in_sequence.Given as goal

abbrev pub invariant-loop-before : goal.invariant-loop-before
invariant-loop-before l =
    in_sequence (map csstmt_tree l.befores.items) (csstmt_tree l.behind) ≡ in_sequence (map csstmt_tree l.initial.befores.items) Nothing

abbrev pub decreases-loop-before : goal.decreases-loop-before
decreases-loop-before l = vec_len l.befores
