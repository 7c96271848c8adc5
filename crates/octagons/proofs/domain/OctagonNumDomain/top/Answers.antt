use Rattle.std.proofs.Common.{sym, subst}
use Rattle.octagons_changes.specs.States.{OctagonView, Admits}
use Rattle.octagons_changes.proofs.Seeing.{none-admits}
use Rattle.octagons.proofs.domain.OctagonNumDomain.top.Goals as goal

pub returns : goal.returns
returns c = λ v. subst (λ (o : OctagonView). Admits o v) (sym c.none.ensures) (none-admits v)
