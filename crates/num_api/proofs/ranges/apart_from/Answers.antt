use Rattle.std.proofs.Common.{subst, ℤ, pos, ◌+ℤ◌, ◌-ℤ◌}
use Rattle.std.specs.Prelude.{if◌then◌else◌}
use Rattle.std.specs.Ordering.{int_eq}
use Rattle.std.proofs.lemmas.Int.{to_z-of_z}
use mir.Syntax.{w128}
use Rattle.num_api.specs.Ranges.{NoWider}
use Rattle.num_api.specs.Spans.{span, range_of}
use Rattle.num_api.proofs.ranges.apart_from.Goals as goal

pub returns-clause-plain : goal.returns-clause-plain
returns-clause-plain c = λ p w.
    let same = to_z-of_z w128 c.args.n c.ranges.n in
    let past = λ (n : ℤ). if int_eq p.lo n then p.lo +ℤ pos 1 else p.lo in
    let first = subst (λ (n : ℤ). NoWider c.past_low.result (range_of (span (past n) p.hi))) same (c.past_low.ensures.plain p w) in
    subst (λ (n : ℤ). NoWider c.past_high.result (range_of (span (past c.args.n) (if int_eq p.hi n then p.hi -ℤ pos 1 else p.hi)))) same
    (c.past_high.ensures.plain (span (past c.args.n) p.hi) first)
