use Rattle.std.proofs.Common.{subst, sym}
use Rattle.relations_laws.specs.Few.{AreFew}
use Rattle.relations_laws.proofs.Counts.{few_shared}
use Rattle.relations_laws.proofs.few.few_after_join.Goals as goal

pub returns : goal.returns
returns c = λ h. subst AreFew (sym c.in_ok-join.ensures.pairs) (few_shared c.args.state.now c.args.other.now h)
