use Rattle.std.proofs.Common.{◌∙◌, ap, sym, subst}
use Rattle.std.specs.Prelude.{IsTrue, not}
use Rattle.num_api.specs.Known.{IsSharp}
use Rattle.num_api.specs.Lives.{is_live}
use Rattle.num_api.specs.Ranges.{NoWider, IsUnder}
use Rattle.machine_nums.proofs.machine.Machine.accept.Goals as goal

pub returns-clause-after : goal.returns-clause-after
returns-clause-after g c = λ v ad k.
    let both = c.in_ok-live.ensures.after v ad.1 k in (
      subst (λ l. IsTrue (is_live l)) (sym c.marked.ensures.answer) both.0,
      (c.marked.ensures.void ∙ ap not both.0, subst (λ s. g.D.Oracle.admits s v) (sym c.marked.ensures.state) both.1),
    )

pub returns-clause-void : goal.returns-clause-void
returns-clause-void g c = c.marked.ensures.void ∙ ap (λ l. not (is_live l)) (sym c.marked.ensures.answer)

pub returns-clause-sharp : goal.returns-clause-sharp
returns-clause-sharp g c = λ v y ex ad k s. subst (λ m. IsSharp (g.D.Oracle.known m) v y) (sym c.marked.ensures.state)
    (c.in_ok-live.ensures.sharp v y ex ad.1 k s)

pub returns-clause-plain : goal.returns-clause-plain
returns-clause-plain g c = λ given ex u void.
    subst (λ m. IsUnder (g.D.Oracle.known m) given) (sym c.marked.ensures.state) (c.in_ok-live.ensures.plain given ex (u c.if-self.false))

pub returns-clause-cut : goal.returns-clause-cut
returns-clause-cut g c = λ x r ex e is.
    subst (λ m. NoWider (g.D.Oracle.known m x.0) r) (sym c.marked.ensures.state)
    (c.in_ok-live.ensures.cut x r ex e (subst (λ l. IsTrue (is_live l)) c.marked.ensures.answer is))
