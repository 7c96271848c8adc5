use Rattle.std.proofs.Common.{drop}
use Rattle.equalities.specs.Pairs.{equalities_of}
use Rattle.equalities.specs.Telling.{IsToldSoFar}
use Rattle.equalities.proofs.telling.tell_all.Given as goal

abbrev pub invariant-loop-p : goal.invariant-loop-p
invariant-loop-p l = IsToldSoFar l.initial.out l.out (equalities_of l.pairs) (equalities_of (drop l.p-index l.pairs))
