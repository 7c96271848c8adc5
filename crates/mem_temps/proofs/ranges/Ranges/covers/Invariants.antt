use Rattle.std.proofs.Common.{ℕ, ℤ, ◌<◌}
use Rattle.num_api.specs.Ranges.{InRange}
use Rattle.mem_temps.specs.Ranges.{range_at}
use Rattle.mem_temps.proofs.ranges.Ranges.covers.Given as goal

abbrev pub invariant-loop-temp : goal.invariant-loop-temp
invariant-loop-temp l = (d : ℕ) (n : ℤ) → d < l.temp → InRange (range_at l.other d) n → InRange (range_at l.self d) n
