use Rattle.std.proofs.Common.{◌≡◌, ◌-◌, ◌+◌, ◌∙◌, ap, length, arith, List}
use Rattle.block_mem.specs.declared.types.Byte.{Byte}
use borrow.Rule.Slice.PartMut.{put_mid}
use Rattle.block_mem.proofs.ByPlace.{put-split}
use Rattle.block_mem.proofs.pieces.put_bytes.Goals as goal

pub returns : goal.returns
returns c =
    let n : c.args.at + length c.args.new.now - c.args.at ≡ length c.args.new.now = omega arith in
    ap (λ k. put_mid c.args.at k c.args.bytes.now c.copy_from_slice.new.self) n
    ∙ ap (λ (new : List Byte). put_mid c.args.at (length c.args.new.now) c.args.bytes.now new) c.copy_from_slice.ensures.after
    ∙ put-split c.args.bytes.now c.args.at c.args.new.now c.requires
