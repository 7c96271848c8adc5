use Rattle.std.proofs.Common.{subst, sym}
use Rattle.relations_laws.specs.Few.{AreFew}
use Rattle.relations_laws.proofs.Counts.{few_accepted}
use Rattle.relations_laws.proofs.few.few_after_accept.Goals as goal

pub returns : goal.returns
returns c = λ h. subst AreFew (sym c.in_ok-live.ensures.pairs) (few_accepted c.args.m.now c.args.state.now h)
