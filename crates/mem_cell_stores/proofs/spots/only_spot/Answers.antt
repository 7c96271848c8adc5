use Rattle.std.proofs.Common.{ℕ, ◌≡◌, ◌∙◌, ◌*◌, ◌<◌, ◌≤◌, ap, arith, length, sym}
use Rattle.std.proofs.lemmas.List.{get_or_read}
use Rattle.mem_cell_loads.proofs.Leads.{only-one}
use Rattle.mem_cell_stores.proofs.spots.only_spot.Goals as goal
use Rattle.mem_cell_stores.proofs.spots.only_spot.Goals.{else-reach-via-then-reach+else-reach-gt1, else-reach-via-else-reach}

pub returns : goal.returns
returns c =
    let reach = c.args.reach.now in
    let ok = reach.objects.ok in let len_is = c.len.ensures in let one = c.if-len-ne1.false in
    let long : length reach.objects.items ≡ 1 = omega (arith, ok.0, len_is, one) in
    let x_is = get_or_read reach.objects.items _ _ (omega (arith, long)) c.index.ensures 0 in
    let only : (i : ℕ) → reach.first ≤ i → i < reach.end → i ≡ reach.first = λ i low high. elim c.else-reach.branch [
      | else-reach-via-then-reach+else-reach-gt1 b ↦ let few = b.if-reach-gt1.false in omega (arith, low, high, few)
      | else-reach-via-else-reach b ↦ let none = b.if-reach.false in absurd (omega (arith, low, high, none))
    ] in
    λ o i has low high. (x_is ∙ only-one reach.objects.items o 0 long has, c.place_at.ensures ∙ ap (λ j. j * reach.step) (sym (only i low high)))
