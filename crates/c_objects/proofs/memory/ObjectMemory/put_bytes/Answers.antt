use Rattle.std.proofs.Common.{rules, arith, sym}
use Rattle.std.proofs.lemmas.Grind.{common_steps}
use Rattle.std.proofs.lemmas.List.{take_all}
use Rattle.std.proofs.lemmas.List.Elements.{All-more, All-same}
use Rattle.c_syntax.specs.declared.program.InitByte.TheVariants.{Num}
use Rattle.c_objects.specs.Statics.{HasEightBits}
use Rattle.c_objects.proofs.memory.ObjectMemory.put_bytes.Goals as goal

pub loop-offset-preserved : goal.loop-offset-preserved
loop-offset-preserved c = (
  search rules,
  grind (arith, common_steps),
  search rules,
  All-more HasEightBits c.args.bytes.now c.loop-offset.offset (Num 0) (omega arith) c.loop-offset.invariant.3 c.put_byte.ensures.bits,
)

pub returns-clause-bits : goal.returns-clause-bits
returns-clause-bits c =
    All-same HasEightBits c.args.bytes.now _ (sym (take_all c.loop-offset.offset c.args.bytes.now (omega arith))) c.loop-offset.invariant.3
