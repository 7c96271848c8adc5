use Rattle.std.proofs.Common.{subst, sym}
use Rattle.num_api.specs.Exprs.{nexpr_tree}
use Rattle.equalities.specs.Pairs.{told_by}
use Rattle.relations_laws.specs.Few.{AreFew}
use Rattle.relations_laws.proofs.Counts.{few_told}
use Rattle.relations_laws.proofs.few.few_after_assume.Goals as goal

pub returns : goal.returns
returns g c = λ h. subst AreFew (sym c.in_ok-live.ensures.pairs) (few_told (told_by (nexpr_tree c.args.e.now) c.args.truth) c.args.state.now h)
