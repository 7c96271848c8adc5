use Rattle.std.proofs.Common.{◌≡◌, map, take, drop}
use Rattle.c_layout.specs.Calls.{chain_end}
use Rattle.c_rules_calls.specs.Placed.{placed}
use Rattle.c_rules_calls.specs.Search.{functions_of, IsAmong}
use Rattle.c_rules_calls.proofs.search.Search.first_at.Given as goal

abbrev pub invariant-loop-at : goal.invariant-loop-at
invariant-loop-at l =
    (chain_end l.initial.self.root (take l.at (map placed l.call-items)) ≡ l.last) × IsAmong (functions_of l.last (drop l.at (map placed l.call-items))) l.function
