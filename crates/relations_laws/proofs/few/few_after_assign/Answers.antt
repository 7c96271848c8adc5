use Rattle.std.proofs.Common.{subst, sym}
use Rattle.num_api.specs.Exprs.{nexpr_tree}
use Rattle.relations_laws.specs.Few.{AreFew}
use Rattle.relations_laws.proofs.Counts.{few_assigned}
use Rattle.relations_laws.proofs.few.few_after_assign.Goals as goal

pub returns : goal.returns
returns g c = λ h. subst AreFew (sym c.in_ok-assign.ensures.pairs) (few_assigned c.args.x.0 (nexpr_tree c.args.e.now) c.args.state.now h)
