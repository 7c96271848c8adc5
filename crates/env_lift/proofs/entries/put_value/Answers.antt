use Rattle.std.proofs.Common.{refl, subst, List}
use Rattle.env_lift.specs.declared.entries.Entry.{Entry}
use Rattle.env_lift.specs.Entries.{entry, IsFoundAt, IsPlaceAt}
use Rattle.env_lift.proofs.Placing.{set_rising, set_value, insert_rising, insert_value}
use Rattle.env_lift.proofs.entries.put_value.Goals as goal

pub returns-in-Ok-clause-rising : goal.returns-in-Ok-clause-rising
returns-in-Ok-clause-rising g c =
    let found = subst (λ (l : List (Entry g.row.T.Denot)). IsFoundAt c.args.x.0 l c.in-Ok.at) c.deref.ensures.value c.in-Ok.ensures.found in
    set_rising c.args.x.0 c.args.entries.now.items c.in-Ok.at (entry c.args.x c.args.value) c.requires found (entry c.args.x c.args.value) refl

pub returns-in-Ok-clause-ok : goal.returns-in-Ok-clause-ok
returns-in-Ok-clause-ok g c =
    let found = subst (λ (l : List (Entry g.row.T.Denot)). IsFoundAt c.args.x.0 l c.in-Ok.at) c.deref.ensures.value c.in-Ok.ensures.found in
    set_value c.args.x.0 c.args.entries.now.items c.in-Ok.at (entry c.args.x c.args.value) c.requires found (entry c.args.x c.args.value) refl

pub returns-in_ok-insert-in-Err-clause-rising : goal.returns-in_ok-insert-in-Err-clause-rising
returns-in_ok-insert-in-Err-clause-rising g c =
    let place = subst (λ (l : List (Entry g.row.T.Denot)). IsPlaceAt c.args.x.0 l c.in-Err.at) c.deref.ensures.value c.in-Err.ensures.absent in
    rw c.in_ok-insert-in-Err.ensures.items (insert_rising c.args.x.0 c.args.entries.now.items c.in-Err.at c.requires place (entry c.args.x c.args.value) refl)

pub returns-in_ok-insert-in-Err-clause-ok : goal.returns-in_ok-insert-in-Err-clause-ok
returns-in_ok-insert-in-Err-clause-ok g c =
    let place = subst (λ (l : List (Entry g.row.T.Denot)). IsPlaceAt c.args.x.0 l c.in-Err.at) c.deref.ensures.value c.in-Err.ensures.absent in
    λ y. rw c.in_ok-insert-in-Err.ensures.items (insert_value c.args.x.0 c.args.entries.now.items c.in-Err.at c.requires place (entry c.args.x c.args.value) refl y)
