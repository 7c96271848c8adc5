use Rattle.std.proofs.Common.{Contains, Some}
use Rattle.std.proofs.lemmas.List.Elements.{All-contains, All-contains_itself, All-nil, All-pop, All-push, All-weaker}
use Rattle.std.proofs.lemmas.List.Sorted.{All-permutation}
use Rattle.alarm_lists.proofs.facts.common_facts.Goals as goal

pub loop-fact-init : goal.loop-fact-init
loop-fact-init c = record {
  facts = All-permutation (Contains c.args.first) c.into_vec-facts.result.items c.sort_by.new.self.items c.in_ok-sort_by.ensures.permutation
      (rw c.into_vec-facts.ensures (All-contains_itself c.args.first));
  rest = rw c.as_slice-rest.ensures.value
      (All-permutation (Contains c.args.second) c.into_vec-others.result.items c.sort_by-2.new.self.items c.in_ok-sort_by-2.ensures.permutation
      (rw c.into_vec-others.ensures (All-contains_itself c.args.second)));
  first = rw c.new-both.ensures.items (All-nil (Contains c.args.first));
  second = rw c.new-both.ensures.items (All-nil (Contains c.args.second));
}

pub loop-fact-preserved-in-Continue-branch-3 : goal.loop-fact-preserved-in-Continue-branch-3
loop-fact-preserved-in-Continue-branch-3 c =
    let popped = All-pop (Contains c.args.first) c.loop-fact.facts.items c.pop.new.self.items (Some c.in-Some.fact) c.in-Some.ensures.items c.loop-fact.invariant.facts in
    let rest = All-weaker (Contains c.loop-fact.rest.now) (Contains c.args.second) (λ x h. All-contains (Contains c.args.second) c.loop-fact.rest.now x c.loop-fact.invariant.rest h)
    c.from_fact-rest.result.now c.from_fact-rest.ensures in
    record {
      facts = popped.0;
      rest = rest;
      first = rw c.in_ok-push.ensures.items (All-push (Contains c.args.first) c.loop-fact.both.items c.in-Some.fact c.loop-fact.invariant.first popped.1);
      second = rw c.in_ok-push.ensures.items (All-push (Contains c.args.second) c.loop-fact.both.items c.in-Some.fact c.loop-fact.invariant.second
          (All-contains (Contains c.args.second) c.from_fact-rest.result.now c.in-Some.fact rest (c.begins_with.ensures c.if-begins_with.true)));
    }

pub loop-fact-preserved-else-begins_with : goal.loop-fact-preserved-else-begins_with
loop-fact-preserved-else-begins_with c =
    let popped = All-pop (Contains c.args.first) c.loop-fact.facts.items c.pop.new.self.items (Some c.in-Some.fact) c.in-Some.ensures.items c.loop-fact.invariant.facts in
    record {
      facts = popped.0;
      rest = All-weaker (Contains c.loop-fact.rest.now) (Contains c.args.second) (λ x h. All-contains (Contains c.args.second) c.loop-fact.rest.now x c.loop-fact.invariant.rest h)
          c.from_fact-rest.result.now c.from_fact-rest.ensures;
      first = c.loop-fact.invariant.first;
      second = c.loop-fact.invariant.second;
    }

pub loop-fact-preserved : goal.loop-fact-preserved
loop-fact-preserved c =
    let popped = All-pop (Contains c.args.first) c.loop-fact.facts.items c.pop.new.self.items (Some c.in-Some.fact) c.in-Some.ensures.items c.loop-fact.invariant.facts in
    record {
      facts = popped.0;
      rest = All-weaker (Contains c.loop-fact.rest.now) (Contains c.args.second) (λ x h. All-contains (Contains c.args.second) c.loop-fact.rest.now x c.loop-fact.invariant.rest h)
          c.from_fact-rest.result.now c.from_fact-rest.ensures;
      first = c.loop-fact.invariant.first;
      second = c.loop-fact.invariant.second;
    }

pub returns-clause-first : goal.returns-clause-first
returns-clause-first c = rw c.from_vec.ensures c.loop-fact.invariant.first

pub returns-clause-second : goal.returns-clause-second
returns-clause-second c = rw c.from_vec.ensures c.loop-fact.invariant.second
