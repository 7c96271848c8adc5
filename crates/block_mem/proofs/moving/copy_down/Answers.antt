use Rattle.std.proofs.Common.{ℕ, suc, ◌≡◌, ◌-◌, ◌∙◌, ap, sym, arith, List}
use Rattle.block_mem.specs.Block.{BlockView}
use Rattle.block_mem.specs.Blocks.{with_bytes}
use Rattle.block_mem.specs.Moves.{with_one}
use Rattle.block_mem.proofs.Copies.{rest_put, down_none, down_more, down_all, within_kept, length-rest}
use Rattle.block_mem.proofs.moving.copy_down.Goals as goal

pub loop-left-init : goal.loop-left-init
loop-left-init c = (omega arith, sym (down_none c.args.blocks.now c.args.transfer c.args.transfer.count c.requires.within (omega arith)))

pub copy_byte-requires-clause-within : goal.copy_byte-requires-clause-within
copy_byte-requires-clause-within c = within_kept c.args.blocks.now c.loop-left.blocks c.args.transfer _ c.requires.within (length-rest c.args.blocks.now c.args.transfer c.loop-left.left) c.loop-left.invariant.1

pub loop-left-preserved : goal.loop-left-preserved
loop-left-preserved c =
    let i : ℕ = c.loop-left.left - 1 in
    let next : c.loop-left.left ≡ suc i = omega arith in (
      omega arith,
      c.copy_byte.ensures
          ∙ ap (λ (m : List BlockView). with_one m c.args.transfer i) (c.loop-left.invariant.1 ∙ ap (λ n. with_bytes c.args.blocks.now c.args.transfer.to_block (rest_put c.args.blocks.now c.args.transfer n)) next)
          ∙ down_more c.args.blocks.now c.args.transfer i c.requires.within c.requires.order (omega arith),
    )

pub returns : goal.returns
returns c = c.loop-left.invariant.1 ∙ down_all c.args.blocks.now c.args.transfer c.loop-left.left (omega arith)
