use Rattle.std.proofs.Common.{take}
use Rattle.c_objects.specs.Statics.{AreEightBits}
use Rattle.mem_cell_domain.proofs.bits.initials_have_eight_bits.Given as goal

abbrev pub invariant-loop-initial : goal.invariant-loop-initial
invariant-loop-initial l = AreEightBits (take l.initial-index l.initials)
