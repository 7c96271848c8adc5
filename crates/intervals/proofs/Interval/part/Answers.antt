use Rattle.std.proofs.Common.{IsTrue, sym, ◌∙◌}
use Rattle.ext_int.specs.Ext.{holds_number}
use Rattle.ext_int.proofs.Ends.{number_between}
use Rattle.intervals.proofs.Interval.part.Goals as goal

pub returns-then-is_range-clause-none : goal.returns-then-is_range-clause-none
returns-then-is_range-clause-none c =
    let held : IsTrue (holds_number c.max-lo.result c.min-hi.result) = sym c.is_range.ensures ∙ c.if-is_range.true in
    let n = number_between c.max-lo.result c.min-hi.result held in
    let low = (c.max-lo.ensures.below n.0).0 n.1 in
    let high = (c.min-hi.ensures.above n.0).0 n.2 in
    (λ h. cc, λ none. absurd (none n.0 (low.0, high.0) low.1 high.1))
