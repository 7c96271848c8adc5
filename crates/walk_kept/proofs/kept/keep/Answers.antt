use Rattle.std.proofs.Common.{refl, inl, inr, [], ◌∷◌, ◌++◌, ⊎_elim, sym, subst, ap, ◌∙◌}
use Rattle.walk_owes.specs.Owes.{KeepsState}
use Rattle.walk_owes.proofs.Lists.{all_for_push, keeps_front, keeps_back}
use Rattle.walk_owes.proofs.Heads.{way_last}
use Rattle.walk_kept.proofs.kept.keep.Goals as goal

pub take_way-requires : goal.take_way-requires
take_way-requires g c = record { one = (c.requires.one.0, c.requires.one.1) }

pub merge-requires : goal.merge-requires
merge-requires g c =
    let q = c.requires.one.0 in
    record { one = (q, c.in_ok-before.ensures.is_for q c.requires.one.1, c.requires.one.2) }

pub returns-clause-is_for : goal.returns-clause-is_for
returns-clause-is_for g c = λ q h k.
    rw c.in_ok-push.ensures.items
    (all_for_push g.M.MemDomain.is_for q _ _ (c.in_ok-before.ensures.kept_for q h) (c.in_ok-both.ensures.is_for q (c.in_ok-before.ensures.is_for q h) k))

pub returns-clause-old : goal.returns-clause-old
returns-clause-old g c = λ w s h.
    rw c.in_ok-push.ensures.items
    (⊎_elim
    (λ t. subst (λ v. KeepsState g.M.MemDomain.stands (c.take_way.new.kept.items ++ record { way = c.args.way; state = c.in_ok-both.both } ∷ []) v s) (sym t.0) (keeps_back g.M.MemDomain.stands c.take_way.new.kept.items (record { way = c.args.way; state = c.in_ok-both.both } ∷ []) c.args.way s (inl (refl, c.in_ok-both.ensures.before s t.1))))
    (λ r. keeps_front g.M.MemDomain.stands _ _ w s r)
    (c.in_ok-before.ensures.taken w s h))

pub returns-clause-new : goal.returns-clause-new
returns-clause-new g c = λ s h. rw c.in_ok-push.ensures.items (keeps_back g.M.MemDomain.stands c.take_way.new.kept.items (record { way = c.args.way; state = c.in_ok-both.both } ∷ []) c.args.way s (inl (refl, c.in_ok-both.ensures.state s h)))

pub returns-clause-only : goal.returns-clause-only
returns-clause-only g c = λ w h.
    ⊎_elim (λ r. inl (c.in_ok-before.ensures.only w r)) (λ e. inr e) (way_last _ _ w (rw c.in_ok-push.ensures.items at h))

pub returns-clause-alone : goal.returns-clause-alone
returns-clause-alone g c = λ e.
    let n = c.in_ok-before.ensures.none e in
    c.in_ok-push.ensures.items ∙ ap (λ l. l ++ record { way = c.args.way; state = c.in_ok-both.both } ∷ []) n.1
    ∙ ap (λ m. record { way = c.args.way; state = m } ∷ []) (c.in_ok-both.ensures.alone n.0)
