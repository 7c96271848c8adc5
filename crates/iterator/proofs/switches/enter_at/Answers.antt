use Rattle.std.proofs.Common.{Some, refl}
use Rattle.csharp.specs.Trees.{csprogram_tree}
use Rattle.walk_owes.proofs.Heads.{head_back, head_front, heads_for_push}
use Rattle.csharp.specs.Actions.{enter}
use Rattle.iterator.proofs.Cases.{no_labels_more}
use Rattle.iterator.proofs.Parting.{alone_last, bare_others}
use Rattle.iterator.proofs.switches.enter_at.Goals as goal

pub returns-clause-heads_for : goal.returns-clause-heads_for
returns-clause-heads_for g c =
    let q = csprogram_tree c.args.program.now in
    rw c.in_ok-push.ensures.items
    (heads_for_push g.M.MemDomain.is_for q c.args.heads.now.items _ c.requires.heads_for (c.in_ok-enter.ensures.is_for q c.requires.is_for))

pub returns-clause-no_labels : goal.returns-clause-no_labels
returns-clause-no_labels g c = λ l h.
    no_labels_more c.args.heads.now.items (record { mark = c.args.mark; state = Some c.enter.new.self }) c.requires.no_labels c.requires.no_label l
    (rw c.in_ok-push.ensures.items at h)

pub returns-clause-old : goal.returns-clause-old
returns-clause-old g c = λ at s h. rw c.in_ok-push.ensures.items (head_front g.M.MemDomain.stands c.args.heads.now.items _ at s h)

pub returns-clause-entered : goal.returns-clause-entered
returns-clause-entered g c = λ s h f.
    let q = csprogram_tree c.args.program.now in
    rw c.in_ok-push.ensures.items
    (head_back g.M.MemDomain.stands c.args.heads.now.items (record { mark = c.args.mark; state = Some c.enter.new.self }) c.args.mark _ refl
    (c.in_ok-enter.ensures.stands q s c.requires.is_for f h))

pub returns-clause-alone : goal.returns-clause-alone
returns-clause-alone g c = λ s h b.
    let q = csprogram_tree c.args.program.now in
    rw c.in_ok-push.ensures.items (
      λ f. alone_last g.M.MemDomain.sharp c.args.heads.now.items (record { mark = c.args.mark; state = Some c.enter.new.self }) (enter q.objects c.args.names.now s) b
          (c.in_ok-enter.ensures.sharp q s c.requires.is_for f h),
      λ other. bare_others c.args.heads.now.items (record { mark = c.args.mark; state = Some c.enter.new.self }) b other,
    )
