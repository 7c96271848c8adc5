use Rattle.std.proofs.Common.{map, arith}
use Rattle.std.proofs.lemmas.Grind.{common_steps}
use Rattle.c_syntax.specs.Types.{object_tree}
use Rattle.c_objects.specs.Statics.{FitsInitial, opened_statics}
use Rattle.csharp_exec.proofs.Begun.{one_more}
use Rattle.csharp_exec.proofs.first.fit.Goals as goal

pub loop-initial-preserved : goal.loop-initial-preserved
loop-initial-preserved c = record {
  test = grind (arith, common_steps);
  fit = one_more (FitsInitial (opened_statics (map object_tree c.args.objects.now))) c.args.initials.now c.loop-initial.initial-index c.initial-item.result
      (omega arith) c.initial-item.is (c.fits.ensures.fits c.if-not-fits.false) c.loop-initial.invariant.fit;
}
