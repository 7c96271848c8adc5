use Rattle.std.proofs.Common.{ap, sym, subst, ◌∙◌, ◌≡◌, ◌+◌, ◌++◌, List, ◌∷◌, drop, suc, add-one, drop-cons}
use Rattle.std.proofs.lemmas.List.{drop_all}
use Rattle.env_lift.specs.declared.entries.Entry.{Entry}
use Rattle.env_lift.specs.Entries.{IsRising}
use Rattle.env_lift.specs.Passes.{IsMerged}
use Rattle.env_lift.proofs.MapMerges.{AreSame, next_same, found_here, merged_step, merged_end}
use Rattle.env_lift.proofs.entries.merged.Goals as goal

pub loop-entry-preserved : goal.loop-entry-preserved
loop-entry-preserved g c =
    let xs = c.args.entries.now in let i = c.loop-entry.entry-index in let item = c.entry-item.result in
    let split : drop i xs ≡ item ∷ drop (i + 1) xs = rw add-one (drop-cons xs i item c.loop-entry-test.true ∙ ap (λ x. x ∷ drop (suc i) xs) (sym c.entry-item.is)) in
    let inv = c.loop-entry.invariant in
    let P = goal.F-post g c.args.f.now in
    let rises = subst IsRising split inv.left_rises in
    let same = subst (AreSame c.loop-entry.rest.now c.args.others.now) split inv.same in
    let moved = c.entries_from-rest.ensures.same in
    let one = c.in_ok-put_met.ensures in
    record {
      rest_rises = c.entries_from-rest.ensures.rising;
      left_rises = rises.1;
      same = next_same c.loop-entry.rest.now c.entries_from-rest.result.now c.args.others.now item (drop (i + 1) xs) rises same moved;
      so_far = λ more m. subst (λ (l : List (Entry g.row.T.Denot)). IsMerged P xs c.args.others.now (l ++ more)) (sym one.2)
          (merged_step P item (drop (i + 1) xs) c.args.others.now xs c.loop-entry.out.items one.0 more c.first_value.result
          (c.first_value.ensures ∙ found_here c.loop-entry.rest.now c.entries_from-rest.result.now c.args.others.now item (drop (i + 1) xs) same moved) one.1
          (λ l k. inv.so_far l (subst (λ (left : List (Entry g.row.T.Denot)). IsMerged P left c.args.others.now l) (sym split) k)) m);
    }

pub returns : goal.returns
returns g c =
    merged_end (goal.F-post g c.args.f.now) (drop c.loop-entry.entry-index c.args.entries.now) c.args.others.now c.args.entries.now c.loop-entry.out.items
    (drop_all c.loop-entry.entry-index c.args.entries.now c.loop-entry-test.false) c.loop-entry.invariant.so_far
