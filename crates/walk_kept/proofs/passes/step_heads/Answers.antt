use Rattle.std.proofs.Common.{[], ◌∷◌, refl}
use Rattle.walk_owes.specs.declared.marks.Head.{Head}
use Rattle.walk_owes.proofs.Heads.{closed_step, fewer_step, head_front, head_step, heads_for_front, heads_for_last, heads_for_push, is_head_back, is_head_front, is_head_only}
use Rattle.walk_owes.proofs.Heads.{is_head_step, left_step, new_step, same_step, wider_step}
use Rattle.walk_kept.proofs.passes.step_heads.Goals as goal

pub step_head-requires-clause-one : goal.step_head-requires-clause-one
step_head-requires-clause-one g c =
    let q = c.requires.one.0 in
    let i = c.loop-mark.invariant.heads_for q c.requires.one.1 c.requires.one.2 in (
      q,
      heads_for_last g.M.MemDomain.is_for q c.pop.new.self.items c.in-Some.field-0 (rw c.in-Some.ensures.items at i.0),
      c.loop-mark.invariant.kept_for q c.requires.one.2,
    )

pub loop-mark-preserved : goal.loop-mark-preserved
loop-mark-preserved g c =
    let xs = c.pop.new.self.items in
    let ys = c.loop-mark.done.items in
    let x = c.in-Some.field-0 in
    let y : Head _ = record { mark = c.in-Some.field-0.mark; state = c.in_ok-wide.field-0.state } in
    let i = c.loop-mark.invariant in
    let step = c.in_ok-wide.ensures in
    let weight = g.M.MemDomain.weight g.S.Steps.list in
    record {
      heads_for = λ q h k.
          let f = i.heads_for q h k in
          let all = rw c.in-Some.ensures.items at f.0 in (
            heads_for_front g.M.MemDomain.is_for q xs x all,
            rw c.in_ok-push.ensures.items
                (heads_for_push g.M.MemDomain.is_for q ys y f.1 (step.is_for q (heads_for_last g.M.MemDomain.is_for q xs x all) (i.kept_for q k))),
          );
      kept_for = λ q k. step.kept_for q (i.kept_for q k);
      back = λ mark s h. i.back mark s (rw c.in-Some.ensures.items (head_front g.M.MemDomain.stands xs (x ∷ []) mark s h));
      old = λ mark s h. rw c.in_ok-push.ensures.items
          (head_step g.M.MemDomain.stands xs ys x y refl step.old mark s (rw c.in-Some.ensures.items at i.old mark s h));
      there = λ l h. rw c.in_ok-push.ensures.items (is_head_step xs ys x y refl l (rw c.in-Some.ensures.items at i.there l h));
      heads_only = λ l h. i.heads_only l (rw c.in-Some.ensures.items (is_head_front xs (x ∷ []) l h));
      done_only = λ l h. is_head_only c.args.heads.items xs ys x y refl (rw c.in-Some.ensures.items at i.heads_only) i.done_only l
          (rw c.in_ok-push.ensures.items at h);
      fewer = rw c.in_ok-push.ensures.items (fewer_step weight xs ys x y c.in_ok-wide.field-0.change _ (rw c.in-Some.ensures.items at i.fewer) step.weight);
      new = λ e. rw c.in_ok-push.ensures.items
          (new_step weight xs ys x y c.in_ok-wide.field-0.change c.loop-mark.change _ (rw c.in-Some.ensures.items at i.fewer) (rw c.in-Some.ensures.items at i.new) step.weight
          (c.both-change.ensures.new e));
      wider = λ e. rw c.in_ok-push.ensures.items
          (wider_step weight xs ys x y c.in_ok-wide.field-0.change c.loop-mark.change _ (rw c.in-Some.ensures.items at i.wider) (rw c.in-Some.ensures.items at i.same) step.weight
          (c.both-change.ensures.wider e));
      same = λ e. rw c.in_ok-push.ensures.items
          (same_step weight xs ys x y c.in_ok-wide.field-0.change c.loop-mark.change _ (rw c.in-Some.ensures.items at i.same) step.weight (c.both-change.ensures.same e));
      closed = λ e l s h k.
          let same = c.both-change.ensures.same e in
          closed_step g.M.MemDomain.stands c.args.heads.items xs x c.loop-mark.kept.items c.step_head.new.kept.items
          (rw c.in-Some.ensures.items at i.back) (step.closed same.0) step.left l s (rw c.in-Some.ensures.items at i.closed same.1 l s h k);
      left = λ w s k.
          left_step g.M.MemDomain.stands c.args.heads.items xs x c.loop-mark.kept.items c.step_head.new.kept.items
          (rw c.in-Some.ensures.items at i.heads_only) step.left w s (i.left w s k);
      none = λ e.
          let v = i.none e in
          let t = step.none v.1 in
          (c.both-change.ensures.still t.0 v.0, t.1);
      one = λ z e n.
          let v = i.one z e n in
          let t = step.one z v.1 (λ l m. n l (i.heads_only l (rw c.in-Some.ensures.items (is_head_back xs x l m)))) in
          (c.both-change.ensures.still t.0 v.0, t.1);
    }

pub returns-clause-heads_for : goal.returns-clause-heads_for
returns-clause-heads_for g c = λ q h k. (c.loop-mark.invariant.heads_for q h k).1
