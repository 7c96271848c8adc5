use Rattle.std.proofs.Common.{subst, sym}
use Rattle.relations_laws.specs.Few.{AreFew}
use Rattle.relations_laws.proofs.Counts.{few_apart}
use Rattle.relations_laws.proofs.few.few_after_havoc.Goals as goal

pub returns : goal.returns
returns c = λ h. subst AreFew (sym c.in_ok-havoc.ensures.pairs) (few_apart c.args.x.0 c.args.state.now h)
