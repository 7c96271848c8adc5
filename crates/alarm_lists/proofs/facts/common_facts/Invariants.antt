use Rattle.std.proofs.Common.{All, Contains, vec_len}
use Rattle.alarm_lists.proofs.facts.common_facts.Given as goal

abbrev pub invariant-loop-fact : goal.invariant-loop-fact
invariant-loop-fact l = record {
  facts : All (Contains l.fn.first) l.facts.items;
  rest : All (Contains l.fn.second) l.rest;
  first : All (Contains l.fn.first) l.both.items;
  second : All (Contains l.fn.second) l.both.items;
}

abbrev pub decreases-loop-fact : goal.decreases-loop-fact
decreases-loop-fact l = vec_len l.facts
