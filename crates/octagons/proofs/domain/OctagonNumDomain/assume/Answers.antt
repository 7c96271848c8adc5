use Rattle.std.proofs.Common.{sym, subst}
use Rattle.octagons_changes.specs.States.{OctagonView, Admits}
use Rattle.octagons.proofs.domain.OctagonNumDomain.assume.Goals as goal

pub returns-clause-told : goal.returns-clause-told
returns-clause-told g c = λ v n h a e t.
    c.in_ok-tell_changes-in-Live.ensures.told v ((c.in_ok-assume.ensures v n (subst (λ (o : OctagonView). Admits o v) (sym c.self.view_is) h) a e t).1)
