use Rattle.std.proofs.Common.{◌≡◌}
use Rattle.mem_intervals.specs.Sets.{below}
use Rattle.mem_intervals.proofs.states.numbers_below.Given as goal

abbrev pub invariant-loop-number : goal.invariant-loop-number
invariant-loop-number l = record {
  items : l.numbers.items ≡ below l.number;
}
