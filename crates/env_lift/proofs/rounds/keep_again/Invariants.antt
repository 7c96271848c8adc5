use Rattle.ext_int.specs.declared.Live.TheVariants.{Live}
use Rattle.num_api.specs.Exprs.{nexpr_tree}
use Rattle.env_lift.specs.Changes.{IsCut, HasTruth}
use Rattle.env_lift.proofs.rounds.keep_again.Given as goal

abbrev pub invariant-loop : goal.invariant-loop
invariant-loop g l = IsCut g.V.ValueDomain.admits g.V.ValueDomain.known g.V.ValueDomain.exact l.initial.state l.state (HasTruth (nexpr_tree l.e) l.truth) Live
