use Rattle.std.proofs.Common.{Contains}
use Rattle.std.proofs.lemmas.List.Elements.{All-contains_itself, All-rest}
use Rattle.alarm_lists.proofs.facts.from_fact.Goals as goal

pub loop-first-init : goal.loop-first-init
loop-first-init c = All-contains_itself c.args.facts.now

pub loop-first-preserved : goal.loop-first-preserved
loop-first-preserved c =
    All-rest (Contains c.args.facts.now) c.in-Some.first.now c.in-Some.more.now c.loop-first.rest.now c.in-Some.ensures.cases.0 c.loop-first.invariant
