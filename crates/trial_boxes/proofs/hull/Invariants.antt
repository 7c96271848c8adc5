use Rattle.std.proofs.Common.{◌≡◌, fold, drop}
use Rattle.std.specs.Int.{int_min, int_max}
use Rattle.ext_int.specs.declared.Ext.TheVariants.{Fin}
use Rattle.std.specs.Prelude.{Some}
use Rattle.trial_boxes.specs.Boxes.{hull_of}
use Rattle.trial_boxes.proofs.hull.Given as goal

abbrev pub invariant-loop-n : goal.invariant-loop-n
invariant-loop-n l = Some (record { lo = Fin (fold int_min l.lo (drop l.n-index l.others)); hi = Fin (fold int_max l.hi (drop l.n-index l.others)) }) ≡ hull_of l.fn.numbers
