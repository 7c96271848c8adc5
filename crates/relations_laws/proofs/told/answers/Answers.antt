use Rattle.std.proofs.Common.{rules, subst}
use Rattle.num_api.proofs.Parts.{wider}
use Rattle.num_api.proofs.Trees.{nexpr_trees}
use Rattle.channels.specs.Hearing.{IsHeard}
use Rattle.relations_laws.proofs.told.answers.Goals as goal

pub returns-in-Between : goal.returns-in-Between
returns-in-Between g c = λ x h. c.is_inside.ensures (wider _ _ _ (c.range.ensures.known c.in-Between.x.0 x (search (rules, nexpr_trees)))
    (subst (IsHeard (g.D.Oracle.known c.args.state.now)) c.in-Between.is h))
