use Rattle.std.proofs.Common.{sym, subst, List}
use Rattle.num_api.specs.Ranges.{IsUnder}
use Rattle.env_lift.specs.declared.entries.Entry.{Entry}
use Rattle.env_lift.specs.States.{known_in}
use Rattle.num_api.proofs.Parts.{wider}
use Rattle.env_lift.specs.Laws.{first_flag}
use Rattle.env_lift.proofs.Changing.{ok_on}
use Rattle.env_lift.proofs.state.EnvNumDomain.accept.Goals as goal

pub returns-clause-plain : goal.returns-clause-plain
returns-clause-plain g c =
    let D = g.V.ValueDomain in
    ok_on _ _ c.accepted.result c.accepted.ensures.cut (λ answer cut given x u y.
    let before = subst (λ (state : List (Entry g.row.V.Denot)). IsUnder (known_in D.known state) given) (sym c.self.view_is) u in
    wider (known_in D.known c.accepted.new.state y) (known_in D.known c.self.inside.state y) (given y) (cut.narrows (first_flag D.exact D.folds x) y) (before y))
