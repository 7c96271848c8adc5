use Rattle.std.proofs.Common.{◌<◌, ◌∙◌, ap, sym, length, arith, slice_set, get_or, List, ℕ}
use Rattle.block_mem.specs.declared.types.Byte.{Byte}
use Rattle.block_mem.specs.declared.types.Byte.TheVariants.{Undef}
use Rattle.block_mem.specs.Pieces.{cut_byte}
use Rattle.block_mem.proofs.ByPlace.{made_more, made-still, made-all, cut_byte-before, cut_byte-after}
use Rattle.block_mem.proofs.pieces.cut.Goals as goal

pub loop-place-init : goal.loop-place-init
loop-place-init c = sym (made-still (cut_byte c.args.at c.args.count) 0 _ c.args.bytes.now (λ p b h. cut_byte-before _ _ p b (omega (arith, c.saturating_sub-first.ensures))))

pub loop-place-preserved : goal.loop-place-preserved
loop-place-preserved c =
    let f = cut_byte c.args.at c.args.count in
    let k : ℕ = c.loop-place.place in
    let within : k < length c.args.bytes.now = omega (arith, c.min-end.ensures) in
    ap (slice_set c.loop-place.bytes k) c.cut_byte.ensures
    ∙ ap (λ (bs : List Byte). slice_set bs k (f k (get_or bs k Undef))) c.loop-place.invariant
    ∙ made_more f k c.args.bytes.now Undef within

pub returns : goal.returns
returns c = c.loop-place.invariant ∙ made-all (cut_byte c.args.at c.args.count) 0 _ c.args.bytes.now (λ p b h u. cut_byte-after _ _ p b (omega (arith, c.min-end.ensures)))
