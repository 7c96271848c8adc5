use Rattle.std.proofs.Common.{subst, List}
use Rattle.env_lift.specs.declared.entries.Entry.{Entry}
use Rattle.env_lift.specs.Entries.{IsFoundAt, IsPlaceAt}
use Rattle.env_lift.proofs.Placing.{remove_rising, remove_is, absent_is}
use Rattle.env_lift.proofs.entries.remove_value.Goals as goal

pub returns-in-Ok-clause-rising : goal.returns-in-Ok-clause-rising
returns-in-Ok-clause-rising g c =
    let found = subst (λ (l : List (Entry g.row.T.Denot)). IsFoundAt c.args.x.0 l c.in-Ok.at) c.deref.ensures.value c.in-Ok.ensures.found in
    rw c.remove.ensures.items (remove_rising c.args.x.0 c.args.entries.now.items c.in-Ok.at c.remove.result c.requires found)

pub returns-in-Ok-clause-value : goal.returns-in-Ok-clause-value
returns-in-Ok-clause-value g c =
    let found = subst (λ (l : List (Entry g.row.T.Denot)). IsFoundAt c.args.x.0 l c.in-Ok.at) c.deref.ensures.value c.in-Ok.ensures.found in
    λ y. rw c.remove.ensures.items (remove_is c.args.x.0 c.args.entries.now.items c.in-Ok.at c.remove.result c.requires found y)

pub returns-in-Err-clause-value : goal.returns-in-Err-clause-value
returns-in-Err-clause-value g c =
    let place = subst (λ (l : List (Entry g.row.T.Denot)). IsPlaceAt c.args.x.0 l c.in-Err.field-0) c.deref.ensures.value c.in-Err.ensures.absent in
    absent_is c.args.x.0 c.args.entries.now.items c.in-Err.field-0 place
