use Rattle.std.proofs.Common.{◌≡◌, length, take, get_or}
use Rattle.std.specs.Prelude.{All}
use Rattle.c_rules_calls.specs.Graph.{calls_from}
use Rattle.c_rules_calls.specs.Depths.{IsDepth}
use Rattle.c_rules_calls.proofs.depth.depths_of.Given as goal

abbrev pub invariant-loop-function : goal.invariant-loop-function
invariant-loop-function l =
    (length l.depths.items ≡ length l.graph)
    × All (λ f. IsDepth l.depths.items (calls_from l.graph f) (get_or l.depths.items f 0)) (take l.function-index l.function-items)
