use Rattle.std.proofs.Common.{◌≡◌, true, false}
use Rattle.iterator.proofs.Parting.{not_true}
use Rattle.iterator.proofs.switches.enter_case.Goals as goal

pub returns-in_ok-enter_at-in-Live-clause-hit : goal.returns-in_ok-enter_at-in-Live-clause-hit
returns-in_ok-enter_at-in-Live-clause-hit g c = λ s h t f.
    c.in_ok-enter_at-in-Live.ensures.entered s (c.in_ok-assume.ensures.stands s t.0 h t.1 t.2).1 f

pub returns-in-Dead-clause-hit : goal.returns-in-Dead-clause-hit
returns-in-Dead-clause-hit g c = λ s h t f.
    let z = (c.in_ok-assume.ensures.stands s t.0 h t.1 t.2).0 in let y : false ≡ true = rw c.in-Dead.is at z in absurd (cc)

pub returns-in_ok-enter_at-in-Live-clause-hit_alone : goal.returns-in_ok-enter_at-in-Live-clause-hit_alone
returns-in_ok-enter_at-in-Live-clause-hit_alone g c = λ s h t b.
    c.in_ok-enter_at-in-Live.ensures.alone s (c.in_ok-assume.ensures.sharp s t.0 h t.1 t.2) b

pub returns-in_ok-enter_at-in-Live-clause-miss_alone : goal.returns-in_ok-enter_at-in-Live-clause-miss_alone
returns-in_ok-enter_at-in-Live-clause-miss_alone g c = λ s h t.
    let z = c.in_ok-assume.ensures.dead s t.0 h t.1 (not_true t.2) in let y : true ≡ false = rw c.in-Live.is at z in absurd (cc)

pub returns-in-Dead-clause-hit_alone : goal.returns-in-Dead-clause-hit_alone
returns-in-Dead-clause-hit_alone g c = λ s h t b.
    let z = (c.in_ok-assume.ensures.stands s t.0 (g.met.M.MemDomain.sharp_stands c.args.state s h) t.1 t.2).0 in
    let y : false ≡ true = rw c.in-Dead.is at z in absurd (cc)
