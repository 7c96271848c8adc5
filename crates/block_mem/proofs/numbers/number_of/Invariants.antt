use Rattle.std.proofs.Common.{◌≡◌, ◌<◌, ◌≤◌, ◌-◌, ◌^◌, length, drop, Some}
use Rattle.block_mem.specs.Numbers.{number_of}
use Rattle.block_mem.proofs.numbers.number_of.Given as goal

abbrev pub invariant-loop-left : goal.invariant-loop-left
invariant-loop-left l = (l.left ≤ length l.bytes) × (number_of (drop l.left l.bytes) ≡ Some l.number) × (l.number < 256 ^ (length l.bytes - l.left))

abbrev pub decreases-loop-left : goal.decreases-loop-left
decreases-loop-left l = l.left
