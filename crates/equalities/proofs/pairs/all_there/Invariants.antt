use Rattle.std.proofs.Common.{◌≡◌, drop}
use Rattle.equalities.specs.Pairs.{equalities_of, all_among}
use Rattle.equalities.proofs.pairs.all_there.Given as goal

abbrev pub invariant-loop-p : goal.invariant-loop-p
invariant-loop-p l = all_among (equalities_of l.pairs) (equalities_of l.list) ≡ all_among (equalities_of (drop l.p-index l.pairs)) (equalities_of l.list)
