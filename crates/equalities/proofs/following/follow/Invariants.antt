use Rattle.std.proofs.Common.{IfSome}
use Rattle.equalities.specs.Pairs.{AreSo, equalities_of}
use Rattle.equalities.specs.Telling.{IsFollowedSoFar, HasTruth}
use Rattle.equalities.proofs.following.follow.Given as goal

abbrev pub invariant-loop : goal.invariant-loop
invariant-loop g l =
    IsFollowedSoFar (λ v. AreSo v (equalities_of l.pairs) × g.O.Oracle.admits l.ask v × IfSome l.initial.next (HasTruth v)) l.initial.out l.out l.next
