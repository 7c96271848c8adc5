use Rattle.std.proofs.Common.{◌≡◌, drop}
use Rattle.equalities.specs.Pairs.{equality, equalities_of, is_among}
use Rattle.equalities.proofs.pairs.is_there.Given as goal

abbrev pub invariant-loop-q : goal.invariant-loop-q
invariant-loop-q l = is_among (equalities_of l.list) (equality l.p) ≡ is_among (equalities_of (drop l.q-index l.list)) (equality l.p)
