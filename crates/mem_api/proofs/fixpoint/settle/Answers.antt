use Rattle.std.proofs.Common.{rules, sym, subst}
use Rattle.std.specs.Prelude.{Ok}
use Rattle.std.specs.Fn.{FnReturnsAt}
use Rattle.std.proofs.lemmas.Fn.{says_at}
use Rattle.mem_api.proofs.fixpoint.settle.Goals as goal

pub widen-requires-clause-one : goal.widen-requires-clause-one
widen-requires-clause-one g c =
    let one = c.requires.one in
    let here = c.loop-state.invariant.0 one.0 one.1 in
    (one.0, here, one.2 c.loop-state.state c.in_ok-next.next here (says_at g.F.Fn c.step.ensures c.in_ok-next.was))

pub returns-then-not-branch-clause-closed : goal.returns-then-not-branch-clause-closed
returns-then-not-branch-clause-closed g c =
    let stays = c.in_ok-widen.ensures.same (search rules) in (
      c.in_ok-next.next,
      subst (λ m. FnReturnsAt g.F.Fn c.args.step m (Ok c.in_ok-next.next)) (sym stays) (says_at g.F.Fn c.step.ensures c.in_ok-next.was),
      c.in_ok-widen.ensures.right,
    )
