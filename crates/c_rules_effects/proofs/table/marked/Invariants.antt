use Rattle.std.proofs.Common.{◌≡◌, ℕ, ◌<◌, false, length, get_or, take}
use Rattle.c_rules_effects.specs.Taken.{is_among}
use Rattle.c_rules_effects.proofs.table.marked.Given as goal

abbrev pub invariant-loop-number : goal.invariant-loop-number
invariant-loop-number l = record {
  size : length l.table.items ≡ l.count;
  marks : (k : ℕ) → k < l.count → get_or l.table.items k false ≡ is_among (take l.number-index l.numbers) k;
}
