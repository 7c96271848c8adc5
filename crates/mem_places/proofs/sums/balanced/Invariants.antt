use Rattle.std.proofs.Common.{length, ◌-◌, ◌+◌}
use Rattle.mem_places.proofs.Balance.{Goes}
use Rattle.mem_places.proofs.sums.balanced.Given as goal

abbrev pub invariant-loop-sum : goal.invariant-loop-sum
invariant-loop-sum l = Goes l.up l.down l.ups l.downs l.sum

abbrev pub decreases-loop-sum : goal.decreases-loop-sum
decreases-loop-sum l = (length l.up - l.ups) + (length l.down - l.downs)
