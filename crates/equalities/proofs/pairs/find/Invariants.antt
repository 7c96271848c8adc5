use Rattle.std.proofs.Common.{◌≡◌, drop}
use Rattle.equalities.specs.Pairs.{equalities_of, expr_of}
use Rattle.equalities.proofs.pairs.find.Given as goal

abbrev pub invariant-loop-p : goal.invariant-loop-p
invariant-loop-p l = expr_of (equalities_of l.pairs) l.x.0 ≡ expr_of (equalities_of (drop l.p-index l.pairs)) l.x.0
