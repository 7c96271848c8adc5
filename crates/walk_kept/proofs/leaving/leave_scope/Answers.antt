use Rattle.std.proofs.Common.{◌≡◌, [], ◌∷◌, refl, rules, sym, inr, ⊎_elim, subst}
use Rattle.csharp.specs.Actions.{leave}
use Rattle.walk_owes.proofs.Lists.{all_for_front, all_for_last}
use Rattle.walk_owes.proofs.Heads.{scope_step}
use Rattle.walk_owes.specs.Exactly.{KeptAlone}
use Rattle.walk_owes.proofs.Alone.{never_last, none_one, only_last}
use Rattle.walk_kept.proofs.leaving.leave_scope.Goals as goal

pub leave-requires : goal.leave-requires
leave-requires g c =
    let q = c.requires.one.0 in
    let all = rw c.in-Some.ensures.items at c.loop-way.invariant.inner_for q c.requires.one.1 in
    (q, all_for_last g.M.MemDomain.is_for q c.pop.new.self.items c.in-Some.field-0 all, c.requires.one.2)

pub keep-requires : goal.keep-requires
keep-requires g c =
    let q = c.requires.one.0 in
    let all = rw c.in-Some.ensures.items at c.loop-way.invariant.inner_for q c.requires.one.1 in
    record {
      one = (
        q,
        c.loop-way.invariant.kept_for q c.requires.one.1 c.requires.one.3,
        c.in_ok-leave.ensures.is_for q (all_for_last g.M.MemDomain.is_for q c.pop.new.self.items c.in-Some.field-0 all),
      );
    }

pub loop-way-preserved : goal.loop-way-preserved
loop-way-preserved g c =
    record {
      inner_for = λ q h. all_for_front g.M.MemDomain.is_for q c.pop.new.self.items c.in-Some.field-0 (rw c.in-Some.ensures.items at c.loop-way.invariant.inner_for q h);
      kept_for = λ q h k. c.in_ok-keep.ensures.is_for q (c.loop-way.invariant.kept_for q h k)
          (c.in_ok-leave.ensures.is_for q (all_for_last g.M.MemDomain.is_for q c.pop.new.self.items c.in-Some.field-0
          (rw c.in-Some.ensures.items at c.loop-way.invariant.inner_for q h)));
      old = λ w s h. c.in_ok-keep.ensures.old w s (c.loop-way.invariant.old w s h);
      left = λ w s h. scope_step g.M.MemDomain.stands c.pop.new.self.items c.in-Some.field-0 c.loop-way.kept.items c.keep.new.kept.items
          (leave c.args.names.now) c.in_ok-keep.ensures.old (λ u i. c.in_ok-keep.ensures.new (leave c.args.names.now u) (c.in_ok-leave.ensures.stands u i)) w s
          (rw c.in-Some.ensures.items at c.loop-way.invariant.left w s h);
      none = λ e. absurd (never_last c.pop.new.self.items _ c.in-Some.field-0 c.in-Some.ensures.items (c.loop-way.invariant.none e).0);
      one = λ x s e f h. ⊎_elim
          (λ a. let o = only_last c.pop.new.self.items _ c.in-Some.field-0 x c.in-Some.ensures.items a.0 in
          inr (
            o.0,
            subst (λ z. KeptAlone g.M.MemDomain.sharp c.keep.new.kept.items z.way (leave c.args.names.now s)) o.1 (
              record { way = c.in-Some.field-0.way; state = c.leave.new.self },
              c.in_ok-keep.ensures.alone a.1,
              refl,
              c.in_ok-leave.ensures.sharp s (subst (λ z. g.M.MemDomain.sharp z.state s) (sym o.1) h),
            ),
          ))
          (λ b. absurd (never_last c.pop.new.self.items _ c.in-Some.field-0 c.in-Some.ensures.items b.0)) (c.loop-way.invariant.one x s e f h);
    }

pub returns-clause-one : goal.returns-clause-one
returns-clause-one g c =
    let empty : c.loop-way.inner.items ≡ [] = search rules in
    λ x s e f h. ⊎_elim (λ a. absurd (none_one c.loop-way.inner.items x empty a.0)) (λ a. a.1) (c.loop-way.invariant.one x s e f h)
