use Rattle.std.proofs.Common.{ap}
use Rattle.num_api.specs.Exprs.{nexpr_tree}
use Rattle.num_api.specs.Lives.{is_live}
use Rattle.num_api.specs.Plain.{tested}
use Rattle.env_lift.specs.States.{known_in}
use Rattle.num_api.proofs.Parts.{wider}
use Rattle.env_lift.specs.Changes.{HasTruth}
use Rattle.env_lift.proofs.Changing.{ok_map, cut_twice}
use Rattle.env_lift.proofs.rounds.keep_rounds.Goals as goal

pub returns-clause-cut : goal.returns-clause-cut
returns-clause-cut g c =
    let D = g.V.ValueDomain in let P = HasTruth (nexpr_tree c.args.e.now) c.args.truth in
    ok_map _ _ c.keep_again.result c.keep_again.ensures
    (λ answer second. cut_twice D.admits D.known D.exact c.args.state.now c.keep_truth.new.state c.keep_again.new.state P P P c.in_ok-keep_truth.field-0 answer c.in_ok-keep_truth.ensures.cut second (λ v p q. (q, q)))

pub returns-clause-plain : goal.returns-clause-plain
returns-clause-plain g c =
    let L = known_in g.V.ValueDomain.known c.keep_truth.new.state in let M = known_in g.V.ValueDomain.known c.keep_again.new.state in
    ok_map _ _ c.keep_again.result c.keep_again.ensures
    (λ answer second given x u p is y. wider (M y) (L y) (tested given (nexpr_tree c.args.e.now) c.args.truth y) (second.narrows x y)
    (c.in_ok-keep_truth.ensures.plain given x u p (ap is_live c.in-Live.is) y))
