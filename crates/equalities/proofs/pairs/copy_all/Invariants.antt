use Rattle.std.proofs.Common.{◌≡◌, ◌++◌, drop}
use Rattle.equalities.specs.Pairs.{equalities_of}
use Rattle.equalities.proofs.pairs.copy_all.Given as goal

abbrev pub invariant-loop-p : goal.invariant-loop-p
invariant-loop-p l = equalities_of l.pairs ≡ equalities_of l.new.items ++ equalities_of (drop l.p-index l.pairs)
