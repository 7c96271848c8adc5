use Rattle.std.proofs.Common.{◌≡◌}
use Rattle.block_mem.specs.Blocks.{with_bytes}
use Rattle.block_mem.proofs.Copies.{front_put}
use Rattle.block_mem.proofs.moving.copy_up.Given as goal

abbrev pub invariant-loop-i : goal.invariant-loop-i
invariant-loop-i l = l.blocks ≡ with_bytes l.fn.blocks l.transfer.to_block (front_put l.fn.blocks l.transfer l.i)
