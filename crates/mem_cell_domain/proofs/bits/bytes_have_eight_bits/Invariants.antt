use Rattle.std.proofs.Common.{All, take}
use Rattle.c_objects.specs.Statics.{HasEightBits}
use Rattle.mem_cell_domain.proofs.bits.bytes_have_eight_bits.Given as goal

abbrev pub invariant-loop-byte : goal.invariant-loop-byte
invariant-loop-byte l = All HasEightBits (take l.byte-index l.bytes)
