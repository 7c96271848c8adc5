use Rattle.std.proofs.Common.{ℕ, sym, ◌∙◌, ◌≡◌, ◌<◌, ◌≤◌, length, arith}
use Rattle.bound_matrix.proofs.Places.{nat-less_or}
use Rattle.octagons_pack.proofs.Places.{places-at, places-past}
use Rattle.octagons_pack.proofs.pack.places_in.Goals as goal

pub returns : goal.returns
returns c = λ k.
    let i = c.loop-k.invariant in let h = c.loop-k-test.false in
    nat-less_or k (length c.args.own.now)
    (λ l. i.before k (omega arith) ∙ sym (places-at c.args.own.now c.args.other.now k l))
    (λ l. nat-less_or k c.loop-k.k
    (λ m. absurd (omega arith))
    (λ m. i.past k m ∙ sym (places-past c.args.own.now c.args.other.now k l)))
