use Rattle.std.proofs.Common.{◌≡◌, ◌≤◌, take, filter, not, length}
use Rattle.pointsets.specs.Targets.{has_name}
use Rattle.pointsets.proofs.without.Given as goal

abbrev pub invariant-loop-n : goal.invariant-loop-n
invariant-loop-n l = record {
  items : l.left.items ≡ filter (λ n. not (has_name l.gone n)) (take l.n-index l.names);
  in_place : l.left.capacity ≡ 16;
  few : length l.left.items ≤ l.n-index;
}
