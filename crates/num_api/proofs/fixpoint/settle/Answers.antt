use Rattle.std.proofs.Common.{◌≡◌, refl, sym, subst, ◌∙◌, true}
use Rattle.std.specs.Prelude.{Ok}
use Rattle.std.specs.Fn.{FnReturnsAt}
use Rattle.std.proofs.lemmas.Fn.{says_at}
use Rattle.std.proofs.lemmas.Bool.{false≢true}
use Rattle.num_api.proofs.fixpoint.settle.Goals as goal

pub returns-then-covers-clause-closed : goal.returns-then-covers-clause-closed
returns-then-covers-clause-closed g c = (c.in_ok-next.next, says_at g.F.Fn c.step.ensures c.in_ok-next.was, c.if-covers.ensures.included refl)

pub loop-state-preserved : goal.loop-state-preserved
loop-state-preserved g c = record {
  holds_start = λ v a. c.in_ok-widen.ensures.left v (c.loop-state.invariant.holds_start v a);
  stays = λ nothing.
      let at_start = c.loop-state.invariant.stays nothing in
      let held = nothing c.in_ok-next.next (subst (λ s. FnReturnsAt g.F.Fn c.args.step s (Ok c.in_ok-next.next)) at_start (says_at g.F.Fn c.step.ensures c.in_ok-next.was)) in
      absurd (false≢true (sym c.if-covers.false ∙ c.covers.ensures.value ∙ subst (λ s. g.D.NumDomain.holds s c.in_ok-next.next ≡ true) (sym at_start) held));
}
