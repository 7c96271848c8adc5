use Rattle.std.proofs.Common.{◌∙◌, ap, sym, arith, List}
use Rattle.block_mem.specs.Block.{BlockView}
use Rattle.block_mem.specs.Moves.{with_one}
use Rattle.block_mem.proofs.Copies.{up_none, up_more, up_all, within_kept, length-front}
use Rattle.block_mem.proofs.moving.copy_up.Goals as goal

pub loop-i-init : goal.loop-i-init
loop-i-init c = sym (up_none c.args.blocks.now c.args.transfer)

pub copy_byte-requires-clause-within : goal.copy_byte-requires-clause-within
copy_byte-requires-clause-within c = within_kept c.args.blocks.now c.loop-i.blocks c.args.transfer _ c.requires.within (length-front c.args.blocks.now c.args.transfer c.loop-i.i) c.loop-i.invariant

pub loop-i-preserved : goal.loop-i-preserved
loop-i-preserved c =
    c.copy_byte.ensures
    ∙ ap (λ (m : List BlockView). with_one m c.args.transfer c.loop-i.i) c.loop-i.invariant
    ∙ up_more c.args.blocks.now c.args.transfer c.loop-i.i c.requires.within c.requires.order c.loop-i-test.true

pub returns : goal.returns
returns c = c.loop-i.invariant ∙ up_all c.args.blocks.now c.args.transfer c.loop-i.i c.requires.within (omega arith)
