use Rattle.std.proofs.Common.{refl, sym, ap, inl, inr, ⊎_elim}
use Rattle.std.proofs.lemmas.Bool.{eq-eqb}
use Rattle.csharp.proofs.CodeTrees.{csstmt_label}
use Rattle.walk_owes.specs.declared.marks.Mark.TheVariants as marks
use Rattle.walk_owes.proofs.Heads.{heads_for_push, head_front, is_head_back, is_head_front, is_head_last, label_same}
use Rattle.walk_owes.proofs.Alone.{bare_push, head_alone_push}
use Rattle.walk_owes.proofs.Entering.{label_is}
use Rattle.walk_owes.proofs.Entering.{no_label_here}
use Rattle.walk_kept.proofs.passes.add_label.Goals as goal

pub returns-in_ok-push-in-Label-clause-is_for : goal.returns-in_ok-push-in-Label-clause-is_for
returns-in_ok-push-in-Label-clause-is_for g c = λ q h.
    rw c.in_ok-push-in-Label.ensures.items (heads_for_push g.M.MemDomain.is_for q c.args.heads.now.items _ h tt)

pub returns-in_ok-push-in-Label-clause-old : goal.returns-in_ok-push-in-Label-clause-old
returns-in_ok-push-in-Label-clause-old g c = λ mark s h.
    rw c.in_ok-push-in-Label.ensures.items (head_front g.M.MemDomain.stands c.args.heads.now.items _ mark s h)

pub returns-in_ok-push-in-Label-clause-there : goal.returns-in_ok-push-in-Label-clause-there
returns-in_ok-push-in-Label-clause-there g c = λ l h.
    rw c.in_ok-push-in-Label.ensures.items (is_head_front c.args.heads.now.items _ l h)

pub returns-in_ok-push-in-Label-clause-only : goal.returns-in_ok-push-in-Label-clause-only
returns-in_ok-push-in-Label-clause-only g c = λ l h.
    ⊎_elim inl
    (λ e. inr (rw (c.in-Label.is, csstmt_label c.in-Label.pos c.in-Label.label) (eq-eqb l c.in-Label.label (sym (label_same c.in-Label.label l e)))))
    (is_head_last c.args.heads.now.items _ l (rw c.in_ok-push-in-Label.ensures.items at h))

pub returns-in_ok-push-in-Label-clause-label : goal.returns-in_ok-push-in-Label-clause-label
returns-in_ok-push-in-Label-clause-label g c = λ l e.
    rw c.in_ok-push-in-Label.ensures.items
    (is_head_back c.args.heads.now.items _ l (ap marks.Label (sym (label_is l c.in-Label.pos c.in-Label.label (rw (c.in-Label.is, csstmt_label c.in-Label.pos c.in-Label.label) at e)))))

pub returns-in_default : goal.returns-in_default
returns-in_default g c = record {
  is_for = λ q h. h;
  old = λ mark s h. h;
  there = λ l h. h;
  only = λ l h. inl h;
  label = λ l e. absurd (no_label_here c.args.item.now l c.in_default.not-Label e);
  bare = λ mark b. b;
  alone = λ mark s a. a;
}

pub returns-in_ok-push-in-Label-clause-bare : goal.returns-in_ok-push-in-Label-clause-bare
returns-in_ok-push-in-Label-clause-bare g c = λ mark b.
    rw c.in_ok-push-in-Label.ensures.items (bare_push c.args.heads.now.items _ mark b refl)

pub returns-in_ok-push-in-Label-clause-alone : goal.returns-in_ok-push-in-Label-clause-alone
returns-in_ok-push-in-Label-clause-alone g c = λ mark s a.
    rw c.in_ok-push-in-Label.ensures.items (head_alone_push g.M.MemDomain.sharp c.args.heads.now.items _ mark s a refl)
