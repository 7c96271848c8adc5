use Rattle.std.proofs.Common.{refl, sym, inl, inr, ⊎_elim}
use Rattle.walk_owes.proofs.Lists.{keeps_front, keeps_back}
use Rattle.walk_owes.proofs.Heads.{keeps_last}
use Rattle.walk_kept.proofs.marks.join_jumps.Goals as goal

pub returns-in_ok-both-in-Some-clause-gone : goal.returns-in_ok-both-in-Some-clause-gone
returns-in_ok-both-in-Some-clause-gone g c = λ w s h. rw c.in_ok-push-in-Some.ensures.items (keeps_front g.M.MemDomain.stands c.args.gone.now.items _ w s h)

pub returns-in_ok-both-in-Some-clause-taken : goal.returns-in_ok-both-in-Some-clause-taken
returns-in_ok-both-in-Some-clause-taken g c = λ s h.
    let i = rw c.in-Some.is at h in
    rw c.in_ok-push-in-Some.ensures.items (keeps_back g.M.MemDomain.stands c.args.gone.now.items _ _ s (inl (refl, rw c.in_ok-once-in-Some.ensures i)))

pub returns-in_ok-both-in-Some-clause-came : goal.returns-in_ok-both-in-Some-clause-came
returns-in_ok-both-in-Some-clause-came g c = λ w s h.
    ⊎_elim inl (λ e. inr (sym e.0, c.in_ok-both-in-Some.ensures.state s (rw c.in_ok-once-in-Some.ensures at e.1)))
    (keeps_last g.M.MemDomain.stands c.args.gone.now.items _ w s (rw c.in_ok-push-in-Some.ensures.items at h))
