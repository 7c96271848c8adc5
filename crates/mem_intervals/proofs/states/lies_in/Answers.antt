use Rattle.std.proofs.Common.{rules, ◌≡◌, true, sym, ◌∙◌}
use Rattle.mem_temps.specs.Operators.{LiesIn}
use Rattle.mem_intervals.proofs.InSteps.{lies_where, high_where, match_lies}
use Rattle.mem_intervals.proofs.states.lies_in.Goals as goal

pub returns-then-eq : goal.returns-then-eq
returns-then-eq c =
    let t = c.args.ty in let r = c.args.range in let own = c.type_range-own.result in
    let low : c.max.result ≡ r.lo = search rules in
    let yes : c.eq-then-eq.result ≡ true → c.min.result ≡ r.hi = λ e. search rules in
    let no : c.min.result ≡ r.hi → c.eq-then-eq.result ≡ true = λ e. search rules in
    match_lies c.eq-then-eq.result (LiesIn t r)
    (λ e. lies_where t r own c.type_range-own.ensures.value (sym c.max.ensures.value ∙ low) (sym c.min.ensures.value ∙ yes e))
    (λ h. no (c.min.ensures.value ∙ high_where t r own c.type_range-own.ensures.value h))
