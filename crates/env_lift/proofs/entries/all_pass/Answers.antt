use Rattle.std.proofs.Common.{ap, sym, subst, ◌∙◌, ◌≡◌, ◌+◌, true, List, ◌∷◌, drop, suc, add-one, drop-cons}
use Rattle.env_lift.specs.declared.entries.Entry.{Entry}
use Rattle.env_lift.specs.Entries.{IsRising}
use Rattle.env_lift.specs.Passes.{AllMet, all_met}
use Rattle.env_lift.proofs.MapMerges.{AreSame, next_same, found_here, test_step, test_fails, met_step}
use Rattle.env_lift.proofs.entries.all_pass.Goals as goal

pub returns-then-not-passes-clause-value : goal.returns-then-not-passes-clause-value
returns-then-not-passes-clause-value g c = λ t h.
    let xs = c.args.entries.now in let i = c.loop-entry.entry-index in let item = c.entry-item.result in
    let split : drop i xs ≡ item ∷ drop (i + 1) xs = rw add-one (drop-cons xs i item c.loop-entry-test.true ∙ ap (λ x. x ∷ drop (suc i) xs) (sym c.entry-item.is)) in
    let inv = c.loop-entry.invariant in
    let same = subst (AreSame c.loop-entry.rest.now c.args.others.now) split inv.same in
    let here = c.first_value.ensures ∙ found_here c.loop-entry.rest.now c.entries_from-rest.result.now c.args.others.now item (drop (i + 1) xs) same c.entries_from-rest.ensures.same in
    let fails = test_fails t item (drop (i + 1) xs) c.args.others.now c.first_value.result here (sym (c.passes.ensures.value t h) ∙ c.if-not-passes.true) in
    sym (inv.value t h ∙ ap (λ (l : List (Entry g.row.T.Denot)). all_met t l c.args.others.now) split ∙ fails)

pub loop-entry-preserved : goal.loop-entry-preserved
loop-entry-preserved g c =
    let xs = c.args.entries.now in let i = c.loop-entry.entry-index in let item = c.entry-item.result in
    let split : drop i xs ≡ item ∷ drop (i + 1) xs = rw add-one (drop-cons xs i item c.loop-entry-test.true ∙ ap (λ x. x ∷ drop (suc i) xs) (sym c.entry-item.is)) in
    let inv = c.loop-entry.invariant in
    let rises = subst IsRising split inv.left_rises in
    let same = subst (AreSame c.loop-entry.rest.now c.args.others.now) split inv.same in
    let moved = c.entries_from-rest.ensures.same in
    let here = c.first_value.ensures ∙ found_here c.loop-entry.rest.now c.entries_from-rest.result.now c.args.others.now item (drop (i + 1) xs) same moved in
    let R = λ (a b : g.row.T.Denot). goal.F-post g c.args.test.now a b true in
    record {
      rest_rises = c.entries_from-rest.ensures.rising;
      left_rises = rises.1;
      same = next_same c.loop-entry.rest.now c.entries_from-rest.result.now c.args.others.now item (drop (i + 1) xs) rises same moved;
      value = λ t h. inv.value t h ∙ ap (λ (l : List (Entry g.row.T.Denot)). all_met t l c.args.others.now) split
          ∙ test_step t item (drop (i + 1) xs) c.args.others.now c.first_value.result here (sym (c.passes.ensures.value t h) ∙ c.if-not-passes.false);
      met = λ rest. inv.met (subst (λ (l : List (Entry g.row.T.Denot)). AllMet R l c.args.others.now) (sym split)
          (met_step R item (drop (i + 1) xs) c.args.others.now c.first_value.result here (c.passes.ensures.met c.if-not-passes.false) rest));
    }
