use Rattle.std.proofs.Common.{◌≡◌, ◌<◌, ◌∙◌, ap, subst, sym, length, List, rules, FitsSigned}
use Rattle.std.specs.Int.{w64}
use Rattle.std.proofs.lemmas.Int.{to_z-of_z}
use Rattle.block_mem.specs.Block.{BlockView}
use Rattle.block_mem.specs.Blocks.{load}
use Rattle.block_mem.proofs.Loads.{load_is}
use Rattle.std.proofs.lemmas.List.{get_or_read}
use Rattle.block_mem.specs.declared.types.Byte.{Byte}
use Rattle.block_mem.specs.Blocks.{no_block, block_at}
use Rattle.block_mem.specs.Proper.{AreProperBytes}
use Rattle.block_mem.proofs.Proper.{proper-part}
use Rattle.block_mem.proofs.blocks.Memory.load.Goals as goal

pub returns-in-None-clause-loaded : goal.returns-in-None-clause-loaded
returns-in-None-clause-loaded c =
    let blocks = c.self.inside.blocks.items in
    let made : c.args.at.block < length blocks = subst (λ (m : List BlockView). c.args.at.block < length m) (sym c.self.view_is) c.requires.made in
    let fits : FitsSigned w64 c.args.at.offset = search rules in
    load_is blocks c.args.at c.args.ty c.index-block.result.now c.bytes.result.now c.start_of-start.result c.scalar_size-size.result _ c.loaded.result
    made c.index-block.ensures c.bytes.ensures (to_z-of_z w64 c.args.at.offset fits) c.start_of-start.ensures c.scalar_size-size.ensures.value c.in-None.ensures c.loaded.ensures.value
    ∙ ap (λ (m : List BlockView). load m c.args.at c.args.ty) c.self.view_is

pub returns-in-None-clause-block : goal.returns-in-None-clause-block
returns-in-None-clause-block c =
    let blocks = c.self.inside.blocks.items in
    let made : c.args.at.block < length blocks = subst (λ (m : List BlockView). c.args.at.block < length m) (sym c.self.view_is) c.requires.made in
    let here : c.index-block.result.now ≡ block_at blocks c.args.at.block = get_or_read blocks c.args.at.block c.index-block.result.now made c.index-block.ensures no_block in
    let same : c.bytes.result.now ≡ (block_at blocks c.args.at.block).bytes = c.bytes.ensures ∙ ap (λ (x : BlockView). x.bytes) here in
    let proper : AreProperBytes (length blocks) c.bytes.result.now = subst (λ (bs : List Byte). AreProperBytes (length blocks) bs) (sym same) (c.self.invariant c.args.at.block) in
    c.loaded.ensures.block (length c.args.self.now) (proper-part (length c.args.self.now) c.bytes.result.now _ _ (subst (λ (m : List BlockView). AreProperBytes (length m) c.bytes.result.now) c.self.view_is proper))
