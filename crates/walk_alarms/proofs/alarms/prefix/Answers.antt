use Rattle.std.proofs.Common.{[], ◌∷◌, ◌++◌, inl, inr, refl, subst, sym, ap, ⊎_elim, ◌∙◌}
use Rattle.csharp.specs.Trees.{Call}
use Rattle.alarm_claims.specs.Admitted.{IsAdmittedIn}
use Rattle.walk_owes.specs.Owes.{IsMoved}
use Rattle.walk_owes.proofs.Admits.{call_admits, gains_more, gains_none}
use Rattle.walk_owes.proofs.Alone.{never_last, only_last}
use Rattle.walk_owes.proofs.Lists.{all_front, all_last, listed_front, listed_moved}
use Rattle.walk_alarms.proofs.alarms.prefix.Goals as goal

pub loop-alarm-init : goal.loop-alarm-init
loop-alarm-init c = record {
  old = λ q d p k x m h. h;
  new = λ q d p k x m h. inl h;
  inner_only = λ q a h. h;
  gains = λ q call f at there h. gains_none q (Call call) c.args.out.now.items;
  none = λ e. (e, refl);
  one = λ x e f. inl (e, f);
}

pub loop-alarm-preserved : goal.loop-alarm-preserved
loop-alarm-preserved c =
    record {
      old = λ q d p k x m h. rw c.in_ok-push.ensures.items (listed_front q c.loop-alarm.out.items _ d p k x m (c.loop-alarm.invariant.old q d p k x m h));
      new = λ q d p k x m h. let i = c.loop-alarm.invariant.new q d p k x m h in
          rw c.in_ok-push.ensures.items (listed_moved q c.in-Some.alarm c.in_ok-moved.moved c.args.at c.pop.new.self.items c.loop-alarm.out.items d p k x m
          c.in_ok-moved.ensures (rw c.in-Some.ensures.items at i));
      inner_only = λ q a h. all_front (IsAdmittedIn q a) c.pop.new.self.items c.in-Some.alarm (rw c.in-Some.ensures.items at c.loop-alarm.invariant.inner_only q a h);
      gains = λ q call f at there h.
          let one = all_last (IsAdmittedIn q f.body) c.pop.new.self.items c.in-Some.alarm (rw c.in-Some.ensures.items at c.loop-alarm.invariant.inner_only q f.body h) in
          let is = subst (λ z. IsMoved z c.in-Some.alarm c.in_ok-moved.moved) (sym at) c.in_ok-moved.ensures in
          rw c.in_ok-push.ensures.items
          (gains_more q (Call call) _ c.loop-alarm.out.items c.in_ok-moved.moved (c.loop-alarm.invariant.gains q call f at there h)
          (call_admits q call f c.in-Some.alarm c.in_ok-moved.moved there is one));
      none = λ e. absurd (never_last c.pop.new.self.items _ c.in-Some.alarm c.in-Some.ensures.items (c.loop-alarm.invariant.none e).0);
      one = λ x e f. ⊎_elim
          (λ a. let o = only_last c.pop.new.self.items _ c.in-Some.alarm x c.in-Some.ensures.items a.0 in
          inr (
            o.0,
            c.in_ok-moved.moved,
            c.in_ok-push.ensures.items ∙ ap (λ l. l ++ c.in_ok-moved.moved ∷ []) a.1,
            subst (λ z. IsMoved c.args.at z c.in_ok-moved.moved) o.1 c.in_ok-moved.ensures,
          ))
          (λ b. absurd (never_last c.pop.new.self.items _ c.in-Some.alarm c.in-Some.ensures.items b.0)) (c.loop-alarm.invariant.one x e f);
    }
