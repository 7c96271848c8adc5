use Rattle.std.proofs.Common.{[], ◌∷◌, ⊎_elim, inl, inr, sym, ap, ◌∙◌, Some}
use Rattle.walk_owes.proofs.Lists.{all_for_front, all_for_last}
use Rattle.walk_owes.proofs.Alone.{never_last, only_last}
use Rattle.walk_owes.proofs.Heads.{take_step, way_back, way_front}
use Rattle.walk_kept.proofs.kept.take_way.Goals as goal

pub take_one-requires : goal.take_one-requires
take_one-requires g c =
    let q = c.requires.one.0 in
    let i = c.loop-own.invariant.is_for q c.requires.one.1 in
    let all = rw c.in-Some.ensures.items at i.0 in
    record { one = (q, all_for_last g.M.MemDomain.is_for q c.pop.new.self.items c.in-Some.field-0 all, i.2) }

pub loop-own-preserved : goal.loop-own-preserved
loop-own-preserved g c =
    record {
      is_for = λ q h. let i = c.loop-own.invariant.is_for q h in
          let all = rw c.in-Some.ensures.items at i.0 in
          let one = all_for_last g.M.MemDomain.is_for q c.pop.new.self.items c.in-Some.field-0 all in (
            all_for_front g.M.MemDomain.is_for q c.pop.new.self.items c.in-Some.field-0 all,
            c.in_ok-found.ensures.rest_for q one i.1,
            c.in_ok-found.ensures.is_for q one i.2,
          );
      taken = λ w s h. take_step g.M.MemDomain.stands c.pop.new.self.items c.in-Some.field-0 c.args.way c.loop-own.found c.in_ok-found.found
          c.loop-own.rest.items c.take_one.new.rest.items c.in_ok-found.ensures.found c.in_ok-found.ensures.old c.in_ok-found.ensures.taken w s
          (rw c.in-Some.ensures.items at c.loop-own.invariant.taken w s h);
      gone = λ h. c.in_ok-found.ensures.gone c.loop-own.invariant.gone h;
      kept_only = λ w h. c.loop-own.invariant.kept_only w (rw c.in-Some.ensures.items (way_front c.pop.new.self.items _ w h));
      rest_only = λ w h. ⊎_elim (λ r. c.loop-own.invariant.rest_only w r)
          (λ e. c.loop-own.invariant.kept_only w (rw c.in-Some.ensures.items (way_back c.pop.new.self.items c.in-Some.field-0 w e)))
          (c.in_ok-found.ensures.only w h);
      none = λ e. absurd (never_last c.pop.new.self.items _ c.in-Some.field-0 c.in-Some.ensures.items (c.loop-own.invariant.none e).0);
      hit = λ x e f. ⊎_elim
          (λ a. let o = only_last c.pop.new.self.items _ c.in-Some.field-0 x c.in-Some.ensures.items a.0 in
          let r = c.in_ok-found.ensures.hit (ap (λ z. z.way) o.1 ∙ f) a.1 in
          inr (o.0, r.0 ∙ ap (λ z. Some z.state) o.1, r.1 ∙ a.2))
          (λ b. absurd (never_last c.pop.new.self.items _ c.in-Some.field-0 c.in-Some.ensures.items b.0)) (c.loop-own.invariant.hit x e f);
      miss = λ x e f. ⊎_elim
          (λ a. let o = only_last c.pop.new.self.items _ c.in-Some.field-0 x c.in-Some.ensures.items a.0 in
          let r = c.in_ok-found.ensures.miss (λ d. f (sym (ap (λ z. z.way) o.1) ∙ d)) a.2 in
          inr (o.0, r.0 ∙ a.1, r.1 ∙ ap (λ z. z ∷ []) o.1))
          (λ b. absurd (never_last c.pop.new.self.items _ c.in-Some.field-0 c.in-Some.ensures.items b.0)) (c.loop-own.invariant.miss x e f);
    }

pub returns-clause-is_for : goal.returns-clause-is_for
returns-clause-is_for g c = λ q h. (c.loop-own.invariant.is_for q h).2

pub returns-clause-kept_for : goal.returns-clause-kept_for
returns-clause-kept_for g c = λ q h. (c.loop-own.invariant.is_for q h).1
