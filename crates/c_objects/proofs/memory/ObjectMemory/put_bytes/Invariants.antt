use Rattle.std.proofs.Common.{◌≡◌, drop, take}
use Rattle.std.specs.Prelude.{All}
use Rattle.c_objects.specs.Statics.{put_from, HasEightBits}
use Rattle.c_objects.specs.Writing.{with_blocks}
use Rattle.c_objects.proofs.Zeroed.{KeepsBlock}
use Rattle.c_objects.proofs.memory.ObjectMemory.put_bytes.Given as goal

abbrev pub invariant-loop-offset : goal.invariant-loop-offset
invariant-loop-offset l =
    (l.self ≡ with_blocks l.initial.self l.self.blocks)
    × (put_from l.initial.self l.block l.offset (drop l.offset l.bytes) l.self.blocks ≡ put_from l.initial.self l.block 0 l.bytes l.initial.self.blocks)
    × KeepsBlock l.block l.initial.self.blocks l.self.blocks
    × All HasEightBits (take l.offset l.bytes)
