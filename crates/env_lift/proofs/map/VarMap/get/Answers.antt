use Rattle.std.proofs.Common.{sym, subst, ap, ◌∙◌, List}
use Rattle.env_lift.specs.declared.entries.Entry.{Entry}
use Rattle.env_lift.specs.Entries.{value_in, IsFoundAt, IsPlaceAt}
use Rattle.env_lift.proofs.Placing.{found_value, place_none}
use Rattle.env_lift.proofs.map.VarMap.get.Goals as goal

pub returns-in-Ok : goal.returns-in-Ok
returns-in-Ok g c =
    let es = c.self.inside.entries.items in
    let found = subst (λ (l : List (Entry g.row.T.Denot)). IsFoundAt c.args.x.0 l c.in-Ok.at) c.deref.ensures.value c.in-Ok.ensures.found in
    sym (found_value c.args.x.0 es c.in-Ok.at c.index.result.now found c.index.ensures) ∙ ap (λ (l : List (Entry g.row.T.Denot)). value_in l c.args.x.0) c.self.view_is

pub returns-in-Err : goal.returns-in-Err
returns-in-Err g c =
    let es = c.self.inside.entries.items in
    let place = subst (λ (l : List (Entry g.row.T.Denot)). IsPlaceAt c.args.x.0 l c.in-Err.field-0) c.deref.ensures.value c.in-Err.ensures.absent in
    sym (place_none c.args.x.0 es c.in-Err.field-0 place) ∙ ap (λ (l : List (Entry g.row.T.Denot)). value_in l c.args.x.0) c.self.view_is
