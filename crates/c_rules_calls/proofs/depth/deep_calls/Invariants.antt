use Rattle.std.proofs.Common.{◌≡◌, ◌≤◌, ◌+◌, length, get_or}
use Rattle.c_layout.specs.Calls.{chain_end}
use Rattle.c_rules_calls.specs.Graph.{IsDefined, IsWay}
use Rattle.c_rules_calls.proofs.depth.deep_calls.Given as goal

abbrev pub invariant-loop-made : goal.invariant-loop-made
invariant-loop-made l =
    IsWay l.graph l.main l.calls × (length l.calls ≡ l.made) × IsDefined l.graph (chain_end l.main l.calls)
    × (65 ≤ get_or l.depths (chain_end l.main l.calls) 0 + l.made)
