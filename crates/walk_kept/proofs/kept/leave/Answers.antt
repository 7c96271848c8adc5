use Rattle.std.proofs.Common.{inr, ⊎_elim, subst}
use Rattle.walk_owes.specs.Exactly.{OutOf}
use Rattle.walk_owes.proofs.Alone.{never_last, only_last}
use Rattle.walk_owes.proofs.Lists.{all_for_front, all_for_last, leave_step}
use Rattle.walk_kept.proofs.kept.leave.Goals as goal

pub leave_one-requires : goal.leave_one-requires
leave_one-requires g c =
    let q = c.requires.one.0 in
    let i = c.loop-way.invariant.is_for q c.requires.one.1 c.requires.one.2 in
    let k = c.loop-way.invariant.kept_for q c.requires.one.1 c.requires.one.3 in
    let all = rw c.in-Some.ensures.items at i.0 in
    record { one = (q, all_for_last g.M.MemDomain.is_for q c.pop.new.self.items c.in-Some.field-0 all, i.1, k.1) }

pub loop-way-preserved : goal.loop-way-preserved
loop-way-preserved g c =
    record {
      is_for = λ q h k. let i = c.loop-way.invariant.is_for q h k in
          let all = rw c.in-Some.ensures.items at i.0 in (
            all_for_front g.M.MemDomain.is_for q c.pop.new.self.items c.in-Some.field-0 all,
            c.in_ok-all.ensures.is_for q (all_for_last g.M.MemDomain.is_for q c.pop.new.self.items c.in-Some.field-0 all) i.1,
          );
      kept_for = λ q h k. let i = c.loop-way.invariant.kept_for q h k in
          let all = rw c.in-Some.ensures.items at i.0 in (
            all_for_front g.M.MemDomain.is_for q c.pop.new.self.items c.in-Some.field-0 all,
            c.in_ok-all.ensures.kept_for q (all_for_last g.M.MemDomain.is_for q c.pop.new.self.items c.in-Some.field-0 all) i.1,
          );
      old = λ w s h. c.in_ok-all.ensures.old w s (c.loop-way.invariant.old w s h);
      after = λ s h. c.in_ok-all.ensures.after s (c.loop-way.invariant.after s h);
      exits = λ w s h. let i = c.loop-way.invariant.exits w s h in
          leave_step g.M.MemDomain.stands c.pop.new.self.items c.in-Some.field-0 c.loop-way.kept.items c.leave_one.new.kept.items c.loop-way.all
          c.in_ok-all.all c.in_ok-all.ensures.old c.in_ok-all.ensures.after c.in_ok-all.ensures.exits w s (rw c.in-Some.ensures.items at i);
      none = λ e. absurd (never_last c.pop.new.self.items _ c.in-Some.field-0 c.in-Some.ensures.items (c.loop-way.invariant.none e).0);
      one = λ x e f k. ⊎_elim
          (λ a. let o = only_last c.pop.new.self.items _ c.in-Some.field-0 x c.in-Some.ensures.items a.0 in
          inr (o.0, subst (λ z. OutOf z.way z.state c.leave_one.new.kept.items c.in_ok-all.all) o.1 (c.in_ok-all.ensures.one a.1 a.2)))
          (λ b. absurd (never_last c.pop.new.self.items _ c.in-Some.field-0 c.in-Some.ensures.items b.0)) (c.loop-way.invariant.one x e f k);
    }

pub returns-clause-is_for : goal.returns-clause-is_for
returns-clause-is_for g c = λ q h k. (c.loop-way.invariant.is_for q h k).1

pub returns-clause-kept_for : goal.returns-clause-kept_for
returns-clause-kept_for g c = λ q h k. (c.loop-way.invariant.kept_for q h k).1
