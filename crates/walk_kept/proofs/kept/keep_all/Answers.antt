use Rattle.std.proofs.Common.{[], ◌∷◌, inr, ⊎_elim, ap, ◌∙◌}
use Rattle.walk_owes.proofs.Lists.{all_for_front, all_for_last}
use Rattle.walk_owes.proofs.Heads.{scope_step}
use Rattle.walk_owes.proofs.Alone.{never_last, only_last}
use Rattle.walk_kept.proofs.kept.keep_all.Goals as goal

pub keep-requires : goal.keep-requires
keep-requires g c =
    let q = c.requires.one.0 in
    let all = rw c.in-Some.ensures.items at c.loop-way.invariant.inner_for q c.requires.one.1 in
    record {
      one = (
        q,
        c.loop-way.invariant.kept_for q c.requires.one.1 c.requires.one.2,
        all_for_last g.M.MemDomain.is_for q c.pop.new.self.items c.in-Some.field-0 all,
      );
    }

pub loop-way-preserved : goal.loop-way-preserved
loop-way-preserved g c =
    record {
      inner_for = λ q h. all_for_front g.M.MemDomain.is_for q c.pop.new.self.items c.in-Some.field-0 (rw c.in-Some.ensures.items at c.loop-way.invariant.inner_for q h);
      kept_for = λ q h k. c.in_ok-keep.ensures.is_for q (c.loop-way.invariant.kept_for q h k)
          (all_for_last g.M.MemDomain.is_for q c.pop.new.self.items c.in-Some.field-0 (rw c.in-Some.ensures.items at c.loop-way.invariant.inner_for q h));
      old = λ w s h. c.in_ok-keep.ensures.old w s (c.loop-way.invariant.old w s h);
      new = λ w s h. scope_step g.M.MemDomain.stands c.pop.new.self.items c.in-Some.field-0 c.loop-way.kept.items c.keep.new.kept.items
          (λ u. u) c.in_ok-keep.ensures.old (λ u i. c.in_ok-keep.ensures.new u i) w s
          (rw c.in-Some.ensures.items at c.loop-way.invariant.new w s h);
      none = λ e. absurd (never_last c.pop.new.self.items _ c.in-Some.field-0 c.in-Some.ensures.items (c.loop-way.invariant.none e).0);
      one = λ x e f. ⊎_elim
          (λ a. let o = only_last c.pop.new.self.items _ c.in-Some.field-0 x c.in-Some.ensures.items a.0 in
          inr (o.0, c.in_ok-keep.ensures.alone a.1 ∙ ap (λ z. z ∷ []) o.1))
          (λ b. absurd (never_last c.pop.new.self.items _ c.in-Some.field-0 c.in-Some.ensures.items b.0)) (c.loop-way.invariant.one x e f);
    }
