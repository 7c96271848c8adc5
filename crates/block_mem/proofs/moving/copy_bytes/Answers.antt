use Rattle.std.proofs.Common.{◌+◌, ◌≤◌, ◌∙◌, ap, subst, length, slice_set}
use Rattle.std.proofs.lemmas.List.{get_or_default}
use Rattle.block_mem.specs.Block.{BlockView}
use Rattle.block_mem.specs.Blocks.{no_block}
use Rattle.block_mem.specs.Pieces.{cut}
use Rattle.block_mem.specs.Moves.{IsWithin}
use Rattle.block_mem.proofs.Copies.{within_moved, copied_is}
use Rattle.block_mem.proofs.moving.copy_bytes.Goals as goal

pub cut-requires : goal.cut-requires
cut-requires c =
    let t = c.args.transfer in
    let w : IsWithin c.move_bytes.new.blocks t = within_moved c.args.blocks.now c.move_bytes.new.blocks t c.requires c.move_bytes.ensures in
    subst (λ (b : BlockView). t.to + t.count ≤ length b.bytes) (get_or_default c.move_bytes.new.blocks t.to_block no_block c.index-blocks-transfer.result w.to_made) w.to_inside

pub returns : goal.returns
returns c =
    let t = c.args.transfer in
    let w : IsWithin c.move_bytes.new.blocks t = within_moved c.args.blocks.now c.move_bytes.new.blocks t c.requires c.move_bytes.ensures in
    let h = c.cut.ensures in
    ap (slice_set c.move_bytes.new.blocks t.to_block) (h ∙ ap (λ (b : BlockView). record b { bytes = cut b.bytes t.to t.count }) (get_or_default c.move_bytes.new.blocks t.to_block c.index-blocks-transfer.result no_block w.to_made))
    ∙ copied_is c.args.blocks.now c.move_bytes.new.blocks t c.requires c.move_bytes.ensures
