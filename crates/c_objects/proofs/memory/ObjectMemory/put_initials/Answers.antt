use Rattle.std.proofs.Common.{sym, arith}
use Rattle.std.proofs.lemmas.List.{take_all}
use Rattle.std.proofs.lemmas.List.Elements.{All-same}
use Rattle.c_objects.specs.Statics.{HasBitsIn}
use Rattle.c_objects.proofs.Initials.{more_initials, more_bits}
use Rattle.c_objects.proofs.memory.ObjectMemory.put_initials.Goals as goal

pub loop-initial-preserved : goal.loop-initial-preserved
loop-initial-preserved c =
    let more = more_initials c.args.self.now c.loop-initial.self c.put_initial.new.self c.args.initials.now c.loop-initial.initial-index c.initial-item.result
    (omega arith) (sym c.initial-item.is) (c.loop-initial.invariant.0, c.loop-initial.invariant.1) c.put_initial.ensures.put in
    let bits = more_bits c.args.self.now c.loop-initial.self c.put_initial.new.self c.args.initials.now c.loop-initial.initial-index c.initial-item.result
    (omega arith) (sym c.initial-item.is) c.loop-initial.invariant.2 c.put_initial.ensures.put c.put_initial.ensures.bits in
    (more.0, more.1, bits)

pub returns-clause-bits : goal.returns-clause-bits
returns-clause-bits c =
    All-same (HasBitsIn c.args.self.now) c.args.initials.now _ (sym (take_all c.loop-initial.initial-index c.args.initials.now (omega arith)))
    c.loop-initial.invariant.2.1
