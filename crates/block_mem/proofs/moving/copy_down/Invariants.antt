use Rattle.std.proofs.Common.{◌≡◌, ◌≤◌}
use Rattle.block_mem.specs.Blocks.{with_bytes}
use Rattle.block_mem.proofs.Copies.{rest_put}
use Rattle.block_mem.proofs.moving.copy_down.Given as goal

abbrev pub invariant-loop-left : goal.invariant-loop-left
invariant-loop-left l = (l.left ≤ l.transfer.count) × (l.blocks ≡ with_bytes l.fn.blocks l.transfer.to_block (rest_put l.fn.blocks l.transfer l.left))

abbrev pub decreases-loop-left : goal.decreases-loop-left
decreases-loop-left l = l.left
