use Rattle.std.proofs.Common.{ℕ, ◌≡◌, ◌∙◌, ◌*◌, ◌<◌, ◌≤◌, ap, arith, length, subst, sym}
use Rattle.std.proofs.lemmas.List.{get_or_read}
use Rattle.std.proofs.lemmas.Option.{IfSome_then}
use Rattle.std.proofs.lemmas.Result.{IfOk-weaker}
use Rattle.machine_nums.specs.MExprs.{mexpr_tree}
use Rattle.mem_cell_loads.specs.Found.{IsFound, IsNumberAt}
use Rattle.mem_cell_loads.proofs.Leads.{only-one}
use Rattle.mem_cell_loads.proofs.loads.only_number.Goals as goal
use Rattle.mem_cell_loads.proofs.loads.only_number.Goals.{else-reach-via-then-reach+else-reach-gt1, else-reach-via-else-reach}

pub returns : goal.returns
returns g c =
    let admits = g.D.Oracle.admits in let known = c.args.known.now in let reach = c.args.reach.now in let ty = c.args.ty in
    let x = c.index-object.result.now in let at = c.place_at-at.result in
    let ok = reach.objects.ok in let len_is = c.len.ensures in let one = c.if-len-ne1.false in
    let long : length reach.objects.items ≡ 1 = omega (arith, ok.0, len_is, one) in
    let x_is = get_or_read reach.objects.items _ _ (omega (arith, long)) c.index-object.ensures 0 in
    let only : (i : ℕ) → reach.first ≤ i → i < reach.end → i ≡ reach.first = λ i low high. elim c.else-reach.branch [
      | else-reach-via-then-reach+else-reach-gt1 b ↦ let few = b.if-reach-gt1.false in omega (arith, low, high, few)
      | else-reach-via-else-reach b ↦ let none = b.if-reach.false in absurd (omega (arith, low, high, none))
    ] in
    let found = subst (λ n. IsFound known.grid x at n c.in_ok-found.found) c.scalar_size.ensures.value c.in_ok-found.ensures in
    IfOk-weaker c.number_of.result _ _ (λ number h. IfSome_then number h (λ m law o i has low high.
    subst (λ y. IsNumberAt admits known y (i * reach.step) ty (mexpr_tree m)) (x_is ∙ only-one reach.objects.items o 0 long has)
    (subst (λ a. IsNumberAt admits known x a ty (mexpr_tree m)) (c.place_at-at.ensures ∙ ap (λ j. j * reach.step) (sym (only i low high))) (law found)))) c.number_of.ensures
