use Rattle.std.proofs.Common.{inl, inr, ⊎_elim}
use Rattle.csharp.proofs.CodeTrees.{csstmts_cons, csstmts_nil}
use Rattle.csharp.specs.Meaning.{AtLabel}
use Rattle.csharp.specs.Trees.{csstmt_tree, csstmts_from}
use Rattle.walk_owes.proofs.Entering.{has_first, has_parts, has_second, nil_of, no_none}
use Rattle.walk_kept.proofs.passes.add_labels.Goals as goal

pub loop-item-preserved : goal.loop-item-preserved
loop-item-preserved g c = record {
  is_for = λ q h. c.in_ok-add_label.ensures.is_for q (c.loop-item.invariant.is_for q h);
  old = λ mark s h. c.in_ok-add_label.ensures.old mark s (c.loop-item.invariant.old mark s h);
  labels = λ k h.
      let i = rw (c.in-Some.ensures.cases.0, csstmts_cons c.in-Some.item.now c.in-Some.more.now) at c.loop-item.invariant.labels k h in
      ⊎_elim (λ a. inl (c.in_ok-add_label.ensures.there k a))
      (λ b. ⊎_elim (λ e. inl (c.in_ok-add_label.ensures.label k e)) (λ r. inr r)
      (has_parts (AtLabel k) (csstmt_tree c.in-Some.item.now) (csstmts_from c.in-Some.more.now) b)) i;
  only = λ k h.
      let among = rw (c.in-Some.ensures.cases.0, csstmts_cons c.in-Some.item.now c.in-Some.more.now) at c.loop-item.invariant.among k in
      ⊎_elim (λ a. c.loop-item.invariant.only k a)
      (λ e. inr (among (has_first (AtLabel k) (csstmt_tree c.in-Some.item.now) (csstmts_from c.in-Some.more.now) e))) (c.in_ok-add_label.ensures.only k h);
  bare = λ mark b. c.in_ok-add_label.ensures.bare mark (c.loop-item.invariant.bare mark b);
  alone = λ mark s a. c.in_ok-add_label.ensures.alone mark s (c.loop-item.invariant.alone mark s a);
  among = λ k h.
      let among = rw (c.in-Some.ensures.cases.0, csstmts_cons c.in-Some.item.now c.in-Some.more.now) at c.loop-item.invariant.among k in
      among (has_second (AtLabel k) (csstmt_tree c.in-Some.item.now) (csstmts_from c.in-Some.more.now) h);
}

pub returns-clause-labels : goal.returns-clause-labels
returns-clause-labels g c = λ l h.
    ⊎_elim (λ a. a) (λ e. absurd (no_none l (rw (nil_of c.loop-item.rest.now c.in_default.ensures.cases, csstmts_nil) at e))) (c.loop-item.invariant.labels l h)
