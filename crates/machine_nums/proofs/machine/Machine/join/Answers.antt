use Rattle.std.proofs.Common.{◌∙◌, sym, subst}
use Rattle.std.proofs.lemmas.Bool.{false≢true}
use Rattle.std.proofs.lemmas.Result.{IfOk-weaker}
use Rattle.num_api.specs.Ranges.{NoWider, hull}
use Rattle.machine_nums.proofs.Both.{ok_both}
use Rattle.machine_nums.proofs.Machines.{hull_first, hull_second}
use Rattle.machine_nums.proofs.machine.Machine.join.Goals as goal

pub returns-then-self-clause-left : goal.returns-then-self-clause-left
returns-then-self-clause-left g c = IfOk-weaker c.take.result _ _ (λ u h v ad. absurd (false≢true (sym ad.0 ∙ c.if-self.true))) c.take.ensures.state

pub returns-then-self-clause-right : goal.returns-then-self-clause-right
returns-then-self-clause-right g c = ok_both _ _ _ c.take.result c.take.ensures.state c.take.ensures.void
    (λ u state void v ad. (void ∙ ad.0, subst (λ s. g.D.Oracle.admits s v) (sym state) ad.1))

pub returns-then-self-clause-plain : goal.returns-then-self-clause-plain
returns-then-self-clause-plain g c = ok_both _ _ _ c.take.result c.take.ensures.state c.take.ensures.void (λ r state void given found ex u w is x.
    let known = g.D.Oracle.known in
    subst (λ s. NoWider (known s x) (hull (given x) (found x))) (sym state)
    (hull_second (known c.args.other.now.state x) (found x) (given x) (w (sym void ∙ is) x)))

pub returns-then-self-clause-of_void : goal.returns-then-self-clause-of_void
returns-then-self-clause-of_void g c = ok_both _ _ _ c.take.result c.take.ensures.state c.take.ensures.void (λ u state void e. (state, void))

pub returns-then-self-clause-with_void : goal.returns-then-self-clause-with_void
returns-then-self-clause-with_void g c = IfOk-weaker c.take.result _ _ (λ u h e f. absurd (false≢true (sym f ∙ c.if-self.true))) c.take.ensures.state

pub returns-then-other-clause-right : goal.returns-then-other-clause-right
returns-then-other-clause-right g c = λ v ad. absurd (false≢true (sym ad.0 ∙ c.if-other.true))

pub returns-then-other-clause-plain : goal.returns-then-other-clause-plain
returns-then-other-clause-plain g c = λ given found ex u w void x. hull_first (g.D.Oracle.known c.args.self.now.state x) (given x) (found x) (u void x)

pub returns-then-other-clause-of_void : goal.returns-then-other-clause-of_void
returns-then-other-clause-of_void g c = λ e. absurd (false≢true (sym c.if-self.false ∙ e))

pub returns-clause-left : goal.returns-clause-left
returns-clause-left g c = IfOk-weaker c.join.result _ _ (λ u h v ad. (ad.0, h v ad.1)) c.join.ensures.left

pub returns-clause-right : goal.returns-clause-right
returns-clause-right g c = IfOk-weaker c.join.result _ _ (λ u h v ad. (c.if-self.false, h v ad.1)) c.join.ensures.right

pub returns-clause-plain : goal.returns-clause-plain
returns-clause-plain g c = IfOk-weaker c.join.result _ _ (λ r h given found ex u w void. h given found ex (u void) (w c.if-other.false)) c.join.ensures.plain

pub returns-clause-of_void : goal.returns-clause-of_void
returns-clause-of_void g c = IfOk-weaker c.join.result _ _ (λ u h e. absurd (false≢true (sym c.if-self.false ∙ e))) c.join.ensures.left

pub returns-clause-with_void : goal.returns-clause-with_void
returns-clause-with_void g c = IfOk-weaker c.join.result _ _ (λ u h e f. absurd (false≢true (sym c.if-other.false ∙ e))) c.join.ensures.left
