use Rattle.std.specs.Int.{w128}
use Rattle.std.proofs.Common.{◌≡◌, ◌∙◌, of_z, refl, rules, sym, to_z, true, false}
use Rattle.csharp.specs.Trees.{csexpr_tree}
use Rattle.iterator.proofs.Cases.{case_label, test_truth}
use Rattle.iterator.proofs.Parting.{not_false}
use Rattle.iterator.proofs.switches.part_case.Goals as goal

pub enter_case-requires-clause-no_label : goal.enter_case-requires-clause-no_label
enter_case-requires-clause-no_label g c = λ l e. case_label c.args.number l (sym c.requires.mark ∙ e)

pub returns-in-Live-clause-hit : goal.returns-in-Live-clause-hit
returns-in-Live-clause-hit g c = λ s t k h i e f.
    let same : to_z w128 (of_z w128 c.args.number) ≡ c.args.number = search rules in
    let test = rw same at c.in_ok-test.ensures in
    rw c.requires.mark at
    (c.in_ok-enter_case.ensures.hit s (rw c.in_ok-hit.ensures (rw c.in-Some.is at h))
    (rw test (test_truth (csexpr_tree c.args.value.now) s c.args.ty t k c.args.number true i e)) f)

pub returns-in-Dead-clause-hit : goal.returns-in-Dead-clause-hit
returns-in-Dead-clause-hit g c = λ s t k h i e f.
    let same : to_z w128 (of_z w128 c.args.number) ≡ c.args.number = search rules in
    let test = rw same at c.in_ok-test.ensures in
    rw c.requires.mark at
    (c.in_ok-enter_case.ensures.hit s (rw c.in_ok-hit.ensures (rw c.in-Some.is at h))
    (rw test (test_truth (csexpr_tree c.args.value.now) s c.args.ty t k c.args.number true i e)) f)

pub returns-in-Live-clause-miss : goal.returns-in-Live-clause-miss
returns-in-Live-clause-miss g c = λ s t k h i e.
    let same : to_z w128 (of_z w128 c.args.number) ≡ c.args.number = search rules in
    let test = rw same at c.in_ok-test.ensures in
    let x = test_truth (csexpr_tree c.args.value.now) s c.args.ty t k c.args.number false i e in
    (c.in_ok-assume.ensures.stands s x.0 (rw c.in-Some.is at h) (rw test x.1) x.2).1

pub returns-in-Dead-clause-miss : goal.returns-in-Dead-clause-miss
returns-in-Dead-clause-miss g c = λ s t k h i e.
    let same : to_z w128 (of_z w128 c.args.number) ≡ c.args.number = search rules in
    let test = rw same at c.in_ok-test.ensures in
    let x = test_truth (csexpr_tree c.args.value.now) s c.args.ty t k c.args.number false i e in
    let z = (c.in_ok-assume.ensures.stands s x.0 (rw c.in-Some.is at h) (rw test x.1) x.2).0 in
    let y : false ≡ true = rw c.in-Dead.is at z in absurd (cc)

pub returns-in-Live-clause-hit_alone : goal.returns-in-Live-clause-hit_alone
returns-in-Live-clause-hit_alone g c = λ s t k h i e b.
    let same : to_z w128 (of_z w128 c.args.number) ≡ c.args.number = search rules in
    let test = rw same at c.in_ok-test.ensures in
    let x = test_truth (csexpr_tree c.args.value.now) s c.args.ty t k c.args.number true i e in
    let z = c.in_ok-assume.ensures.dead s x.0 (rw c.in-Some.is at h) (rw test x.1) (not_false x.2) in
    let y : true ≡ false = rw c.in-Live.is at z in absurd (cc)

pub returns-in-Dead-clause-hit_alone : goal.returns-in-Dead-clause-hit_alone
returns-in-Dead-clause-hit_alone g c = λ s t k h i e b.
    let same : to_z w128 (of_z w128 c.args.number) ≡ c.args.number = search rules in
    let test = rw same at c.in_ok-test.ensures in
    let w = rw c.requires.mark at
    (c.in_ok-enter_case.ensures.hit_alone s (rw c.in_ok-hit.ensures (rw c.in-Some.is at h))
    (rw test (test_truth (csexpr_tree c.args.value.now) s c.args.ty t k c.args.number true i e)) b) in
    (refl, w.0, w.1)

pub returns-in-Live-clause-miss_alone : goal.returns-in-Live-clause-miss_alone
returns-in-Live-clause-miss_alone g c = λ s t k h i e.
    let same : to_z w128 (of_z w128 c.args.number) ≡ c.args.number = search rules in
    let test = rw same at c.in_ok-test.ensures in
    let x = test_truth (csexpr_tree c.args.value.now) s c.args.ty t k c.args.number false i e in
    let w = c.in_ok-enter_case.ensures.miss_alone s (rw c.in_ok-hit.ensures (rw c.in-Some.is at h)) (rw test x) in
    (c.in_ok-assume.ensures.sharp s x.0 (rw c.in-Some.is at h) (rw test x.1) x.2, w)

pub returns-in-Dead-clause-miss_alone : goal.returns-in-Dead-clause-miss_alone
returns-in-Dead-clause-miss_alone g c = λ s t k h i e.
    let same : to_z w128 (of_z w128 c.args.number) ≡ c.args.number = search rules in
    let test = rw same at c.in_ok-test.ensures in
    let x = test_truth (csexpr_tree c.args.value.now) s c.args.ty t k c.args.number false i e in
    let z = (c.in_ok-assume.ensures.stands s x.0 (g.met.M.MemDomain.sharp_stands c.in-Some.state s (rw c.in-Some.is at h)) (rw test x.1) x.2).0 in
    let y : false ≡ true = rw c.in-Dead.is at z in absurd (cc)
