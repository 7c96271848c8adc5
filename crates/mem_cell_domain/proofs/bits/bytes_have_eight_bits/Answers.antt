use Rattle.std.proofs.lemmas.List.Elements.{All-more}
use Rattle.c_objects.specs.Statics.{HasEightBits}
use Rattle.mem_cell_domain.proofs.bits.bytes_have_eight_bits.Goals as goal

pub loop-byte-preserved : goal.loop-byte-preserved
loop-byte-preserved c =
    All-more HasEightBits c.args.bytes.now c.loop-byte.byte-index _ c.loop-byte-test.true c.loop-byte.invariant c.byte_has_eight_bits.ensures
