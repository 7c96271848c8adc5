use Rattle.std.proofs.Common.{sym, subst}
use Rattle.octagons_changes.specs.States.{OctagonView, Admits}
use Rattle.octagons.proofs.domain.OctagonOracle.range.Goals as goal

pub returns-clause-holds : goal.returns-clause-holds
returns-clause-holds c = λ v n h e. c.range.ensures.holds v n (subst (λ (o : OctagonView). Admits o v) (sym c.self.view_is) h) e
