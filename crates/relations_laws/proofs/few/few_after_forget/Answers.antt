use Rattle.std.proofs.Common.{subst, sym}
use Rattle.relations_laws.specs.Few.{AreFew}
use Rattle.relations_laws.proofs.Counts.{few_apart}
use Rattle.relations_laws.proofs.few.few_after_forget.Goals as goal

pub returns : goal.returns
returns c = λ h. subst AreFew (sym c.in_ok-forget.ensures.pairs) (few_apart c.args.x.0 c.args.state.now h)
