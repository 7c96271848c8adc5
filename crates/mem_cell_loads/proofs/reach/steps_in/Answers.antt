use Rattle.std.proofs.Common.{◌≡◌, ◌/◌, ap, arith}
use Rattle.mem_cell_loads.proofs.Leads.{steps-made}
use Rattle.mem_cell_loads.proofs.reach.steps_in.Goals as goal

pub returns-then-last-first : goal.returns-then-last-first
returns-then-last-first c =
    let low = c.in_ok-low.low in let high = c.in_ok-high.high in let step = c.args.step in
    let low_is : low / c.from.result ≡ low / step = ap (λ n. low / n) c.from.ensures in
    let high_is : high / c.from-2.result ≡ high / step = ap (λ n. high / n) c.from-2.ensures in
    let past = c.if-last-first.true in
    λ i inside.
    let r = steps-made c.args.range step low high c.requires c.in_ok-low.ensures c.in_ok-high.ensures i inside in
    let first = r.0 in let last = r.1 in absurd (omega (arith, first, last, low_is, high_is, past))

pub returns : goal.returns
returns c =
    let low = c.in_ok-low.low in let high = c.in_ok-high.high in let step = c.args.step in
    let low_is : low / c.from.result ≡ low / step = ap (λ n. low / n) c.from.ensures in
    let high_is : high / c.from-2.result ≡ high / step = ap (λ n. high / n) c.from-2.ensures in
    λ i inside.
    let r = steps-made c.args.range step low high c.requires c.in_ok-low.ensures c.in_ok-high.ensures i inside in
    let first = r.0 in let last = r.1 in (omega (arith, first, low_is), omega (arith, last, high_is))
