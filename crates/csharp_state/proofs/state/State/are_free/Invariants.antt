use Rattle.std.proofs.Common.{◌≡◌, length}
use Rattle.csharp.specs.Actions.{are_free}
use Rattle.csharp_state.proofs.state.State.are_free.Given as goal

abbrev pub invariant-loop-first : goal.invariant-loop-first
invariant-loop-first l = are_free l.left l.self ≡ are_free l.fn.names l.fn.self

abbrev pub decreases-loop-first : goal.decreases-loop-first
decreases-loop-first l = length l.left
