use Rattle.std.proofs.Common.{All, Contains, length}
use Rattle.alarm_lists.proofs.facts.from_fact.Given as goal

abbrev pub invariant-loop-first : goal.invariant-loop-first
invariant-loop-first l = All (Contains l.facts) l.rest

abbrev pub decreases-loop-first : goal.decreases-loop-first
decreases-loop-first l = length l.rest
