use Rattle.std.proofs.Common.{◌≡◌, ℕ, ◌<◌, ◌≤◌, length}
use Rattle.num_api.specs.Ranges.{hull}
use Rattle.mem_temps.specs.Ranges.{range_at}
use Rattle.mem_temps.proofs.ranges.Ranges.join.Given as goal

abbrev pub invariant-loop-temp : goal.invariant-loop-temp
invariant-loop-temp l = (length l.self ≡ length l.initial.self)
    × ((d : ℕ) → d < l.temp → range_at l.self d ≡ hull (range_at l.initial.self d) (range_at l.other d))
    × ((d : ℕ) → l.temp ≤ d → range_at l.self d ≡ range_at l.initial.self d)
