use Rattle.std.proofs.Common.{◌≡◌, [], ◌∷◌, ◌++◌, refl, inl, inr, ap, ◌∙◌, rules}
use Rattle.walk_owes.proofs.Lists.{all_for_push, keeps_front, keeps_back}
use Rattle.walk_owes.proofs.Heads.{no_way, way_last}
use Rattle.walk_kept.proofs.kept.take_one.Goals as goal

pub returns-in_ok-push-clause-rest_for : goal.returns-in_ok-push-clause-rest_for
returns-in_ok-push-clause-rest_for g c = λ q h k. rw c.in_ok-push.ensures.items (all_for_push g.M.MemDomain.is_for q c.args.rest.now.items _ k h)

pub returns-in_ok-push-clause-old : goal.returns-in_ok-push-clause-old
returns-in_ok-push-clause-old g c = λ w s h. rw c.in_ok-push.ensures.items (keeps_front g.M.MemDomain.stands c.args.rest.now.items _ w s h)

pub returns-in_ok-push-clause-taken : goal.returns-in_ok-push-clause-taken
returns-in_ok-push-clause-taken g c = λ s h.
    inr (rw c.in_ok-push.ensures.items
    (keeps_back g.M.MemDomain.stands c.args.rest.now.items (record { way = c.args.own; state = c.args.state } ∷ []) c.args.own s (inl (refl, h))))

pub returns-in_ok-push-clause-gone : goal.returns-in_ok-push-clause-gone
returns-in_ok-push-clause-gone g c = λ h k.
    let other : c.args.own ≡ c.args.way → ⊥ = search rules in
    no_way c.args.rest.now.items (record { way = c.args.own; state = c.args.state }) c.args.way h other (rw c.in_ok-push.ensures.items at k)

pub returns-in_ok-push-clause-only : goal.returns-in_ok-push-clause-only
returns-in_ok-push-clause-only g c = λ w k. way_last c.args.rest.now.items _ w (rw c.in_ok-push.ensures.items at k)

pub returns-in_ok-push-clause-hit : goal.returns-in_ok-push-clause-hit
returns-in_ok-push-clause-hit g c = λ e f.
    let other : c.args.own ≡ c.args.way → ⊥ = search rules in
    absurd (other e)

pub returns-in_ok-push-clause-miss : goal.returns-in_ok-push-clause-miss
returns-in_ok-push-clause-miss g c = λ n e.
    (refl, c.in_ok-push.ensures.items ∙ ap (λ l. l ++ record { way = c.args.own; state = c.args.state } ∷ []) e)
